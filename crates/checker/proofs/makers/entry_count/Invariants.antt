use Rattle.std.proofs.Common.{◌≡◌, ◌≤◌}
use Rattle.ompt_events.specs.Causes.{entries_before}
use Rattle.checker.proofs.makers.entry_count.Given as goal

-- the entries of the records so far are counted
abbrev pub invariant-loop-at : goal.invariant-loop-at
invariant-loop-at l = record {
  count : l.count ≡ entries_before l.run.records l.at;
  few : l.count ≤ l.at;
}
