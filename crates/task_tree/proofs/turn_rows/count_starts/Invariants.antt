use Rattle.std.proofs.Common.{◌≡◌, ◌≤◌, length}
use Rattle.std.specs.Prelude.{sum}
use Rattle.task_tree.proofs.turn_rows.count_starts.Given as goal

-- the starts of the records so far are counted
abbrev pub invariant-loop-at : goal.invariant-loop-at
invariant-loop-at l = record {
  all : length l.counts.items ≡ length l.family.tasks;
  few : sum l.counts.items ≤ l.at;
}
