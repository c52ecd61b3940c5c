use Rattle.std.proofs.Common.{◌≡◌, ◌∙◌, ◌<◌, ℕ, Option, None, length, ap, subst, arith, rules}
use Rattle.std.proofs.lemmas.List.{get_or_default}
use Rattle.std.proofs.lemmas.Option.{slice_get_within}
use Rattle.std.specs.Prelude.{◌↔◌, IsTrue}
use Rattle.ompt_events.specs.declared.cause.Cause.TheVariants.{RegionOrder}
use Rattle.ompt_events.specs.Records.{region}
use Rattle.ompt_events.specs.Places.{at}
use Rattle.ompt_events.specs.Causes.{HasCause}
use Rattle.task_tree.specs.Runs.{RunView, IsRegionEvent}
use Rattle.task_states.specs.Regions.{IsPlaceJudged, top_after}
use Rattle.task_states.proofs.RegionLemmas.{top_of, innermost_here, judged_has, found_first}
use Rattle.task_states.proofs.RegionLemmas.{earliest_silent, open_more_own, open_more_none}
use Rattle.task_states.proofs.regions.link_regions.Goals as goal

pub index-opened-requires : goal.index-opened-requires
index-opened-requires c =
    let own = c.in-Some.ensures in
    let inside =
    slice_get_within c.run-run.result.now.family.tasks c.in-Some.event.task own.task own.indexed in
    let tops = c.loop-number.invariant.open_ones.tops in
    let within : c.in-Some.event.task < length c.loop-number.innermost.items = omega (arith, inside, tops) in
    search rules

pub is_misplaced-misplaced-requires-clause-opened : goal.is_misplaced-misplaced-requires-clause-opened
is_misplaced-misplaced-requires-clause-opened c =
    let run = c.run-run.result.now in
    let innermost = c.loop-number.innermost.items in
    let event = c.in-Some.event in
    let opened = c.index-opened.result.now in
    let own : IsRegionEvent run c.loop-number.number event.task event.kind event.endpoint =
    c.in-Some.ensures in
    let inside = slice_get_within run.family.tasks event.task own.task own.indexed in
    let tops = c.loop-number.invariant.open_ones.tops in
    let is_top : opened ≡ top_of innermost event.task =
    c.index-opened.ensures
    ∙ get_or_default innermost event.task opened None (omega (arith, inside, tops)) in
    innermost_here run c.loop-number.number event.task innermost c.loop-number.links.items c.get.result
    c.loop-number.invariant.open_ones (c.get.ensures ∙ is_top)

pub index_mut-requires : goal.index_mut-requires
index_mut-requires c =
    let own = c.in-Some.ensures in
    let inside =
    slice_get_within c.run-run.result.now.family.tasks c.in-Some.event.task own.task own.indexed in
    let tops = c.loop-number.invariant.open_ones.tops in
    let within : c.in-Some.event.task < length c.loop-number.innermost.items = omega (arith, inside, tops) in
    search rules

pub loop-number-preserved : goal.loop-number-preserved
loop-number-preserved c =
    let run = c.run-run.result.now in
    let rs = run.records in
    let n = c.loop-number.number in
    let innermost = c.loop-number.innermost.items in
    let links = c.loop-number.links.items in
    let event = c.in-Some.event in
    let opened = c.index-opened.result.now in
    let own : IsRegionEvent run n event.task event.kind event.endpoint = c.in-Some.ensures in
    let inside = slice_get_within run.family.tasks event.task own.task own.indexed in
    let tops = c.loop-number.invariant.open_ones.tops in
    let is_top : opened ≡ top_of innermost event.task =
    c.index-opened.ensures
    ∙ get_or_default innermost event.task opened None (omega (arith, inside, tops)) in
    let P : Option ℕ → Type 0 = λ o. IsPlaceJudged rs n o c.is_misplaced-misplaced.result in
    let judged = subst P c.get.ensures c.is_misplaced-misplaced.ensures in
    let Q : RunView → Type 0 =
    λ r. IsTrue c.is_misplaced-misplaced.result ↔ HasCause r.records n RegionOrder in
    let has_it =
    subst Q c.run-run.ensures.value (judged_has rs n opened c.is_misplaced-misplaced.result judged) in
    let next : c.next_top.result ≡ top_after links opened n event.endpoint =
    rw (← c.deref.ensures.value) c.next_top.ensures in
    record {
      open_ones =
          rw next
          (open_more_own run n event.task event.kind event.endpoint innermost links opened
          c.is_misplaced-misplaced.result c.task_count.ensures.is_run.family.makers.apart
          c.loop-number.invariant.open_ones own is_top
          (rw c.len-number-end.ensures.value at c.loop-number-test.true) judged);
      earliest = c.earlier-earliest.ensures RegionOrder has_it c.loop-number.invariant.earliest;
    }

pub loop-number-preserved-in_default : goal.loop-number-preserved-in_default
loop-number-preserved-in_default c =
    let run = c.run-run.result.now in
    let n = c.loop-number.number in
    let P : RunView → Type 0 = λ r. at region r.records n ≡ None in
    record {
      open_ones =
          open_more_none run.records n run.family.tasks c.loop-number.innermost.items
          c.loop-number.links.items c.loop-number.invariant.open_ones c.in_default.ensures;
      earliest =
          earliest_silent c.args.own.now n c.loop-number.earliest
          (subst P c.run-run.ensures.value c.in_default.ensures) c.loop-number.invariant.earliest;
    }

pub returns-clause-earliest : goal.returns-clause-earliest
returns-clause-earliest c =
    let count = ap (λ (r : RunView). length r.records) c.run-run.ensures.value in
    found_first c.args.own.now c.loop-number.number c.loop-number.earliest c.run-run.ensures.is_own.places
    (omega (arith, c.loop-number-test.false, c.len-number-end.ensures.value, count))
    c.loop-number.invariant.earliest
