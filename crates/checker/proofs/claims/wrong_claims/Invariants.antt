use Rattle.ompt_events.specs.declared.cause.Cause.TheVariants.{ShareWrong}
use Rattle.ompt_events.specs.Shown.{AreAllBelow}
use Rattle.task_tree.specs.Own.{HasCauseAt}
use Rattle.checker.proofs.claims.wrong_claims.Given as goal

-- these are the places so far
abbrev pub invariant-loop-place : goal.invariant-loop-place
invariant-loop-place l = AreAllBelow (HasCauseAt l.own ShareWrong) l.place l.shown
