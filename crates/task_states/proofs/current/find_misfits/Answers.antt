use Rattle.std.proofs.Common.{◌≡◌, ◌∙◌, ◌<◌, ◌+◌, length, ap, sym, subst, arith, rules, refl, false}
use Rattle.std.proofs.Math.ListN.{set}
use Rattle.std.specs.Prelude.{◌↔◌, IsTrue, ◌&&◌, not, slice_index_or}
use Rattle.ompt_events.specs.Threads.{MisfitsAt}
use Rattle.ompt_events.specs.Causes.{IsNotCurrent}
use Rattle.ompt_events.proofs.ShownLemmas.{noted, no_more}
use Rattle.ompt_events.proofs.ThreadLemmas.{walk_is}
use Rattle.task_states.specs.Walks.{after_event}
use Rattle.task_states.proofs.ListingLemmas.{none_yet}
use Rattle.task_states.proofs.WalkLemmas.{stands_none, stands_more, stands_still, indexed_read}
use Rattle.task_states.proofs.CurrentLemmas.{misfits_here, misfits_there, nothing_fits, none_marked}
use Rattle.task_states.proofs.CurrentLemmas.{AreMarked, marked_still, marked_more, first_misfit, all_misfits}
use Rattle.task_states.proofs.current.find_misfits.Goals as goal

pub loop-at-init : goal.loop-at-init
loop-at-init c = record {
  walks = stands_none c.args.run.now c.in_ok-walks.walks.items c.in_ok-walks.ensures;
  marked = none_marked c.args.run.now.records _ refl;
  places = none_yet (IsNotCurrent c.args.run.now.records) c.none-shown.result c.none-shown.ensures;
}

pub loop-at-preserved-in_default : goal.loop-at-preserved-in_default
loop-at-preserved-in_default c =
    let run = c.args.run.now in
    let i = c.loop-at.at in
    let fits = nothing_fits run i c.in_default.ensures in
    record {
      walks =
          stands_still run i c.loop-at.walks.items c.len-at-end.ensures.is_run
          (rw c.len-at-end.ensures.value at c.loop-at-test.true) c.in_default.ensures
          c.loop-at.invariant.walks;
      marked = marked_still run.records i c.loop-at.have_misfits fits c.loop-at.invariant.marked;
      places =
          no_more (IsNotCurrent run.records) i c.loop-at.shown (λ first. fits first.misfits)
          c.loop-at.invariant.places;
    }

pub loop-at-preserved : goal.loop-at-preserved
loop-at-preserved c =
    let run = c.args.run.now in
    let rs = run.records in
    let i = c.loop-at.at in
    let thread = c.thread-thread.result in
    let event = c.in-Some.event in
    let walks = c.loop-at.walks.items in
    let walk = c.index_mut-walk.result.now in
    let low : thread < 256 = search rules in
    let is_run = c.len-at-end.ensures.is_run in
    let within : i < length rs = rw c.len-at-end.ensures.value at c.loop-at-test.true in
    let stands =
    indexed_read run i thread walks walk low c.loop-at.invariant.walks c.index_mut-walk.ensures.value in
    let exact : IsTrue c.misfits-misfit.result ↔ MisfitsAt rs i = (
      λ yes.
          misfits_here run i thread walk event is_run within c.thread-thread.ensures c.in-Some.ensures stands
          (c.misfits-misfit.ensures.0 yes),
      λ misfit.
          c.misfits-misfit.ensures.1
          (misfits_there run i thread walk event is_run c.thread-thread.ensures c.in-Some.ensures stands
          misfit),
    ) in
    record {
      walks =
          stands_more run c.nests-nests.result i thread event walks
          (set walks thread c.advance.new.self) is_run
          c.nests-nests.ensures within c.thread-thread.ensures c.in-Some.ensures
          c.loop-at.invariant.walks
          (ap (set walks thread)
          (c.in_ok-advance.ensures
          ∙ ap (λ w. after_event c.nests-nests.result w event)
          (walk_is walks thread walk (rw c.loop-at.invariant.walks.all low)
          c.index_mut-walk.ensures.value)));
      marked =
          subst (λ mark. AreMarked rs (i + 1) (set c.loop-at.have_misfits thread mark))
          (sym c.in_ok-note_first.ensures.marked)
          (marked_more rs i thread c.misfits-misfit.result c.loop-at.have_misfits low
          c.thread-thread.ensures exact c.loop-at.invariant.marked);
      places =
          noted (IsNotCurrent rs) i
          (c.misfits-misfit.result && not (slice_index_or c.loop-at.have_misfits thread false))
          c.loop-at.shown c.note_first.new.shown
          (first_misfit rs i thread c.misfits-misfit.result c.loop-at.have_misfits low
          c.thread-thread.ensures exact c.loop-at.invariant.marked)
          c.in_ok-note_first.ensures.shown c.loop-at.invariant.places;
    }

pub returns : goal.returns
returns c =
    let rs = c.args.run.now.records in
    let all : length rs ≡ c.loop-at.at =
    omega (arith, c.loop-at-test.false, c.loop-at.auto.at-end, c.len-at-end.ensures.value) in
    all_misfits rs c.loop-at.at c.loop-at.shown all c.loop-at.invariant.places
