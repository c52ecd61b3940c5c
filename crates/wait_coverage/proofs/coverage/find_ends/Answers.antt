use Rattle.std.proofs.Common.{◌≡◌, Some, subst}
use Rattle.std.specs.Prelude.{slice_get}
use Rattle.task_tree.specs.Own.{OwnView}
use Rattle.teams.specs.Teams.{own_of}
use Rattle.wait_coverage.proofs.CoverageLemmas.{ends_start, ends_other, ends_more, waits_start, waits_more}
use Rattle.wait_coverage.proofs.coverage.find_ends.Goals as goal
use Rattle.wait_coverage.proofs.coverage.find_ends.Goals.{in-Some+in_ok-push+in_ok-push-2, in_default}

pub loop-place-init : goal.loop-place-init
loop-place-init c = record {
  ends = ends_start (own_of c.args.teams.now) c.new-ends.result.items c.new-ends.ensures.items;
  waits =
      waits_start (own_of c.args.teams.now) c.new-ends.result.items c.new-waits.result.items
      c.new-ends.ensures.items c.new-waits.ensures.items;
}

pub loop-place-preserved : goal.loop-place-preserved
loop-place-preserved c =
    let own = own_of c.args.teams.now in
    let n = c.loop-place.place in
    let is_own = c.own.ensures.is_teams.placed in
    let P : OwnView → Type 0 = λ o. slice_get o.places c.number.result ≡ Some n in
    let stands = subst P c.own.ensures.value c.number.ensures.value in
    elim c.match-wait_at.branch [
      | in-Some+in_ok-push+in_ok-push-2 w ↦
          rw (w.ends-is, w.waits-is, w.in_ok-push.ensures.items, w.in_ok-push-2.ensures.items) record {
            ends =
                ends_more own n c.number.result w.in-Some.wait c.loop-place.ends.items stands
                c.loop-place.invariant.ends w.in-Some.ensures;
            waits =
                waits_more own n c.number.result w.in-Some.wait c.loop-place.ends.items
                c.loop-place.waits.items
                is_own stands c.loop-place.invariant.waits w.in-Some.ensures;
          }
      | in_default w ↦ rw (w.ends-is, w.waits-is) record {
        ends =
            ends_other own n c.number.result c.loop-place.ends.items is_own stands c.loop-place.invariant.ends
            w.in_default.ensures;
        waits = c.loop-place.invariant.waits;
      }
    ]
