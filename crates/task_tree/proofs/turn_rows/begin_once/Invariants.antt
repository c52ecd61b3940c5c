use Rattle.std.proofs.Common.{ℕ, ◌<◌}
use Rattle.task_tree.specs.TurnRows.{AreMarkedUpTo, BeginsAnew}
use Rattle.task_tree.proofs.turn_rows.begin_once.Given as goal

-- the turns that the records so far begin are marked, each of which began anew
abbrev pub invariant-loop-at : goal.invariant-loop-at
invariant-loop-at l = record {
  marked : AreMarkedUpTo l.trace.records l.at l.family.tasks l.offsets l.begun;
  anew : (i : ℕ) → i < l.at → BeginsAnew l.trace.records i;
}
