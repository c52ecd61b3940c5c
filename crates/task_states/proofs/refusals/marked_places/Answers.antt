use Rattle.std.proofs.Common.{◌≡◌, length, false, get_or, subst, arith}
use Rattle.std.specs.Prelude.{IsTrue}
use Rattle.ompt_events.specs.Shown.{AreAllBelow}
use Rattle.ompt_events.proofs.ShownLemmas.{noted}
use Rattle.task_states.proofs.ListingLemmas.{none_yet}
use Rattle.task_states.proofs.refusals.marked_places.Goals as goal

pub loop-at-init : goal.loop-at-init
loop-at-init c =
    none_yet (λ i. IsTrue (get_or c.args.marks.now i false)) c.none-shown.result c.none-shown.ensures

pub loop-at-preserved : goal.loop-at-preserved
loop-at-preserved c =
    let marks = c.args.marks.now in
    let i = c.loop-at.at in
    noted (λ k. IsTrue (get_or marks k false)) i (get_or marks i false) c.loop-at.shown c.note.new.self
    (λ so. so, λ so. so) c.in_ok-note.ensures c.loop-at.invariant

pub returns : goal.returns
returns c =
    let marks = c.args.marks.now in
    let all : c.loop-at.at ≡ length marks = omega (arith, c.loop-at-test.false, c.loop-at.auto.at-end) in
    subst (λ n. AreAllBelow (λ i. IsTrue (get_or marks i false)) n c.loop-at.shown) all c.loop-at.invariant
