use Rattle.std.proofs.Common.{◌≡◌, ◌↔◌, ℕ, Option, None, length, ap, subst, arith}
use Rattle.std.specs.Prelude.{IsTrue}
use Rattle.ompt_events.specs.declared.cause.Cause.TheVariants.{RegionOrder}
use Rattle.ompt_events.specs.Causes.{HasCause}
use Rattle.ompt_events.proofs.PlaceLemmas.{none_from_test}
use Rattle.ompt_events.proofs.ShownLemmas.{noted}
use Rattle.task_tree.specs.Own.{HasCauseAt, FindsFirstPlace}
use Rattle.task_tree.specs.Runs.{RunView}
use Rattle.task_states.proofs.ListingLemmas.{none_yet}
use Rattle.task_states.proofs.RegionLemmas.{at_its_place, all_places, no_places_with}
use Rattle.task_states.proofs.regions.misplaced_regions.Goals as goal

pub returns-then-is_none : goal.returns-then-is_none
returns-then-is_none c =
    let own = c.args.own.now in
    let P : Option ℕ → Type 0 = FindsFirstPlace own RegionOrder in
    let none : c.in_ok-links.links.earliest ≡ None =
    none_from_test c.in_ok-links.links.earliest c.if-is_none.ensures in
    no_places_with own RegionOrder c.none-shown.result c.none-shown.ensures
    (subst P none c.in_ok-links.ensures.earliest)

pub loop-place-init : goal.loop-place-init
loop-place-init c = none_yet (HasCauseAt c.args.own.now RegionOrder) c.none-shown.result c.none-shown.ensures

pub loop-place-preserved : goal.loop-place-preserved
loop-place-preserved c =
    let own = c.args.own.now in
    let P : RunView → Type 0 =
    λ r. IsTrue c.is_misplaced_by-misplaced.result ↔ HasCause r.records c.number.result RegionOrder in
    noted (HasCauseAt own RegionOrder) c.loop-place.place c.is_misplaced_by-misplaced.result
    c.loop-place.shown
    c.note.new.self
    (at_its_place own RegionOrder c.number.result c.loop-place.place c.is_misplaced_by-misplaced.result
    c.run-run.ensures.is_own.places c.number.ensures.value
    (subst P c.run-run.ensures.value c.is_misplaced_by-misplaced.ensures))
    c.in_ok-note.ensures c.loop-place.invariant

pub returns : goal.returns
returns c =
    let own = c.args.own.now in
    let count = ap (λ (r : RunView). length r.records) c.run-run.ensures.value in
    let all : length own.run.records ≡ c.loop-place.place =
    omega (
      arith,
      c.loop-place-test.false,
      c.loop-place.auto.place-end,
      c.len-place-end.ensures.value,
      count,
    ) in
    all_places own RegionOrder c.loop-place.place c.loop-place.shown c.run-run.ensures.is_own.places all
    c.loop-place.invariant
