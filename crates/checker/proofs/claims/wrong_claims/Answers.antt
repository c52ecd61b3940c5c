use Rattle.std.proofs.Common.{◌≡◌, length, arith}
use Rattle.ompt_events.specs.declared.cause.Cause.TheVariants.{ShareWrong}
use Rattle.ompt_events.proofs.ShownLemmas.{none_below, noted}
use Rattle.task_tree.specs.Own.{HasCauseAt}
use Rattle.teams.proofs.ShownPlaceLemmas.{at_place, all_places}
use Rattle.checker.proofs.ClaimLemmas.{wrong_is_cause}
use Rattle.checker.proofs.claims.wrong_claims.Goals as goal

pub loop-place-init : goal.loop-place-init
loop-place-init c = rw c.none-shown.ensures (none_below (HasCauseAt c.args.own.now ShareWrong))

pub loop-place-preserved : goal.loop-place-preserved
loop-place-preserved c =
    let own = c.args.own.now in
    noted (HasCauseAt own ShareWrong) c.loop-place.place c.claims_wrongly.result c.loop-place.shown
    c.note.new.self
    (at_place own ShareWrong c.loop-place.place c.number.result c.claims_wrongly.result
    c.run-run.ensures.is_own c.number.ensures.value
    (wrong_is_cause own.run.records c.number.result c.claims_wrongly.result
    (rw c.run-run.ensures.value at c.claims_wrongly.ensures)))
    c.in_ok-note.ensures c.loop-place.invariant

pub returns : goal.returns
returns c =
    let own = c.args.own.now in
    let last : length own.run.records ≡ c.loop-place.place =
    let long = rw c.run-run.ensures.value at c.len-place-end.ensures.value in
    omega (arith, long, c.loop-place-test.false, c.loop-place.auto.place-end) in
    all_places own ShareWrong c.loop-place.place c.loop-place.shown c.run-run.ensures.is_own last
    c.loop-place.invariant
