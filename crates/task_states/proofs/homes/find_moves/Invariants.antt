use Rattle.ompt_events.specs.Causes.{IsMoved}
use Rattle.ompt_events.specs.Shown.{AreAllBelow}
use Rattle.task_states.proofs.MetLemmas.{AreMet}
use Rattle.task_states.proofs.homes.find_moves.Given as goal

-- it is known where each task ran so far, and which records moved one untold
abbrev pub invariant-loop-at : goal.invariant-loop-at
invariant-loop-at l = record {
  homes : AreMet l.run.records l.at l.run.family.tasks l.homes.items;
  places : AreAllBelow (IsMoved l.run.records) l.at l.shown;
}
