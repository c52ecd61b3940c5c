use Rattle.std.proofs.Common.{◌≡◌, ◌+◌, ℕ, length}
use Rattle.checker.specs.Merge.{key_of}
use Rattle.checker.specs.Lists.{AreLists, LeadsOn}
use Rattle.checker.proofs.lists.lists_of_keys.Given as goal

-- from the end on the records so far are in their lists
abbrev pub invariant-loop-step : goal.invariant-loop-step
invariant-loop-step l = record {
  keys : length l.lists.firsts.items ≡ length l.run.family.tasks + length l.suspensions.places.items;
  lists : (from : ℕ) → from + l.step ≡ length l.run.records
      → AreLists (key_of l.run.family.tasks l.run.records l.suspensions.rows.items) (length l.run.records)
      from l.lists.firsts.items l.lists.nexts.items;
  rising : LeadsOn (length l.run.records) l.lists.nexts.items;
}
