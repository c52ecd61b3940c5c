use Rattle.ompt_events.specs.Causes.{HasNoRoot}
use Rattle.ompt_events.specs.Shown.{AreAllBelow}
use Rattle.task_tree.proofs.rootless.find_rootless.Given as goal

-- the records so far that speak of a task without a root
abbrev pub invariant-loop-at : goal.invariant-loop-at
invariant-loop-at l = AreAllBelow (HasNoRoot l.trace.records) l.at l.shown
