use Rattle.ompt_events.specs.declared.cause.Cause.TheVariants.{TeamShort}
use Rattle.ompt_events.specs.Shown.{AreAllBelow}
use Rattle.task_tree.specs.Own.{HasCauseAt}
use Rattle.teams.specs.Tables.{tables_own}
use Rattle.teams.proofs.listing.list_short.Given as goal

-- these are the places so far
abbrev pub invariant-loop-place : goal.invariant-loop-place
invariant-loop-place l = AreAllBelow (HasCauseAt (tables_own l.tables) TeamShort) l.place l.shown
