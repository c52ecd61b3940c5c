use Rattle.std.proofs.Common.{List, ℕ, subst}
use Rattle.std.specs.Prelude.{IfOk}
use Rattle.ompt_events.specs.declared.cause.Cause.TheVariants.{TeamShort}
use Rattle.task_tree.specs.Own.{AreAllPlacesWith}
use Rattle.task_tree.specs.Runs.{RunView}
use Rattle.teams.proofs.listing.short_teams.Goals as goal

pub returns : goal.returns
returns c =
    let P : RunView → Type 0 =
    λ r.
    IfOk c.list_short.result
    (AreAllPlacesWith (record { run = r; places = c.in_ok-tables.tables.places }) TeamShort) in
    let Q : List ℕ → Type 0 =
    λ places.
    IfOk c.list_short.result
    (AreAllPlacesWith (record { run = c.args.regions.now.own.run; places = places }) TeamShort) in
    subst Q c.in_ok-tables.ensures.places (subst P c.in_ok-tables.ensures.run c.list_short.ensures)
