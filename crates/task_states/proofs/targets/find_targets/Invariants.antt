use Rattle.ompt_events.specs.Causes.{MakesTarget}
use Rattle.ompt_events.specs.Shown.{AreAllBelow}
use Rattle.task_states.proofs.targets.find_targets.Given as goal

-- it is known which of the records so far make a target task
abbrev pub invariant-loop-at : goal.invariant-loop-at
invariant-loop-at l = AreAllBelow (MakesTarget l.run.records) l.at l.shown
