use Rattle.std.proofs.Common.{◌≡◌, ◌∙◌, Some, length, ap, subst, arith}
use Rattle.std.specs.Prelude.{slice_get}
use Rattle.ompt_events.specs.declared.cause.Cause.TheVariants.{TeamShort}
use Rattle.ompt_events.proofs.ShownLemmas.{none_below, noted}
use Rattle.task_tree.specs.Own.{OwnView, HasCauseAt}
use Rattle.task_tree.specs.Runs.{RunView}
use Rattle.teams.specs.Tables.{tables_own}
use Rattle.teams.proofs.ShownPlaceLemmas.{at_place, all_places}
use Rattle.teams.proofs.ShortLemmas.{short_is_cause}
use Rattle.teams.proofs.listing.list_short.Goals as goal

pub loop-place-init : goal.loop-place-init
loop-place-init c =
    rw c.none-shown.ensures (none_below (HasCauseAt (tables_own c.args.tables.now) TeamShort))

pub loop-place-preserved : goal.loop-place-preserved
loop-place-preserved c =
    let own = tables_own c.args.tables.now in
    let P : OwnView → Type 0 = λ o. slice_get o.places c.number-number.result ≡ Some c.loop-place.place in
    let stands = subst P c.own.ensures.value c.number-number.ensures.value in
    noted (HasCauseAt own TeamShort) c.loop-place.place c.is_short.result c.loop-place.shown c.note.new.self
    (at_place own TeamShort c.loop-place.place c.number-number.result c.is_short.result
    c.own.ensures.are_tables.placed stands
    (short_is_cause own.run.records c.number-number.result c.is_short.result c.is_short.ensures))
    c.in_ok-note.ensures c.loop-place.invariant

pub returns : goal.returns
returns c =
    let own = tables_own c.args.tables.now in
    let count : c.len-place-end.result ≡ length own.run.records =
    c.len-place-end.ensures.value ∙ ap (λ (r : RunView). length r.records) c.run.ensures.value in
    let last : length own.run.records ≡ c.loop-place.place =
    omega (arith, c.loop-place-test.false, c.loop-place.auto.place-end, count) in
    all_places own TeamShort c.loop-place.place c.loop-place.shown c.run.ensures.are_tables.placed last
    c.loop-place.invariant
