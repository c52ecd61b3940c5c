use Rattle.std.proofs.Common.{ℕ, ◌<◌}
use Rattle.ompt_events.specs.Causes.{HasTurnGap}
use Rattle.task_tree.specs.Rising.{IsInOrder, AreLatestTurns}
use Rattle.task_tree.proofs.rising.turns_rise.Given as goal

-- the records so far have no gap and are in order, and what is known of the tasks is right
abbrev pub invariant-loop-at : goal.invariant-loop-at
invariant-loop-at l = record {
  known : AreLatestTurns l.trace.records l.at l.family.tasks l.latest.items;
  gapless : (k : ℕ) → k < l.at → HasTurnGap l.trace.records k → ⊥;
  in_order : (k : ℕ) → k < l.at → IsInOrder l.trace.records k;
}
