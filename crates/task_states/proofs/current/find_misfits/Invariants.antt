use Rattle.ompt_events.specs.Causes.{IsNotCurrent}
use Rattle.ompt_events.specs.Shown.{AreAllBelow}
use Rattle.task_states.proofs.WalkLemmas.{AreThreadWalks}
use Rattle.task_states.proofs.CurrentLemmas.{AreMarked}
use Rattle.task_states.proofs.current.find_misfits.Given as goal

-- it is known where each thread stands, which threads have had a misfit, and the first of each of them
abbrev pub invariant-loop-at : goal.invariant-loop-at
invariant-loop-at l = record {
  walks : AreThreadWalks l.run l.at l.walks.items;
  marked : AreMarked l.run.records l.at l.have_misfits;
  places : AreAllBelow (IsNotCurrent l.run.records) l.at l.shown;
}
