use Rattle.std.proofs.Common.{get_or}
use Rattle.std.proofs.lemmas.Option.{slice_get-get_or}
use Rattle.scripts.proofs.PlaceLemmas.{places_next}
use Rattle.scripts.proofs.plan.places_by_thread.Goals as goal

pub loop-at-preserved : goal.loop-at-preserved
loop-at-preserved c =
    let steps = c.args.steps.now in
    let at = c.loop-at.at in
    let some = c.index-steps-at.result in
    record {
      places =
          places_next steps at (get_or steps at some) c.loop-at.threads.items c.note_place.new.threads.items
          (slice_get-get_or steps at some c.loop-at-test.true) c.loop-at.invariant.places
          c.in_ok-note_place.ensures.added;
      few = c.in_ok-note_place.ensures.few;
    }
