use Rattle.ompt_events.specs.declared.cause.Cause.TheVariants.{RegionOrder}
use Rattle.ompt_events.specs.Shown.{AreAllBelow}
use Rattle.task_tree.specs.Own.{HasCauseAt}
use Rattle.task_states.proofs.regions.misplaced_regions.Given as goal

-- it is known which of the places so far have the cause
abbrev pub invariant-loop-place : goal.invariant-loop-place
invariant-loop-place l = AreAllBelow (HasCauseAt l.own RegionOrder) l.place l.shown
