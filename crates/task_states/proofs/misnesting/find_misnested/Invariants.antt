use Rattle.ompt_events.specs.Causes.{IsMisnested}
use Rattle.ompt_events.specs.Shown.{AreAllBelow}
use Rattle.task_states.specs.Misnesting.{HaveBegun}
use Rattle.task_states.proofs.WalkLemmas.{AreThreadWalks}
use Rattle.task_states.proofs.misnesting.find_misnested.Given as goal

-- it is known where each thread stands, which regions have begun, and which roots so far begin inside
-- another one of a region that its thread's current task has not begun
abbrev pub invariant-loop-at : goal.invariant-loop-at
invariant-loop-at l = record {
  walks : AreThreadWalks l.run l.at l.walks.items;
  begun : HaveBegun l.run l.at l.begun;
  places : AreAllBelow (IsMisnested l.run.records) l.at l.shown;
}
