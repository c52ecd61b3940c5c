use Rattle.std.proofs.Common.{◌≡◌, ◌∙◌, ◌<◌, ap, arith, length, refl, sym, Some}
use Rattle.std.proofs.lemmas.Option.{slice_get-get_or, slice_get_read}
use Rattle.std.specs.Prelude.{slice_get}
use Rattle.ompt_events.specs.declared.records.Record.{Record}
use Rattle.taskaudit.proofs.OrderingLemmas.{moved_more, within}
use Rattle.taskaudit.proofs.ordering.records_at.Goals as goal

pub unwrap-place-requires : goal.unwrap-place-requires
unwrap-place-requires c =
    let order = c.args.order.now in
    let below : c.loop-before.before < length order =
    omega (arith, c.loop-before-test.true, c.len-before-end.ensures) in
    rw (c.place_at.ensures, slice_get-get_or order c.loop-before.before 0 below)

pub index_mut-requires : goal.index_mut-requires
index_mut-requires c =
    let below : c.unwrap-place.result < length c.args.records.items =
    within c.args.records.items c.args.order.now c.loop-before.before c.unwrap-place.result c.requires
    (sym c.place_at.ensures ∙ c.unwrap-place.ensures) in
    omega (arith, below, c.loop-before.invariant.long)

pub loop-before-preserved : goal.loop-before-preserved
loop-before-preserved c =
    let rs = c.args.records.items in
    let order = c.args.order.now in
    let left = c.loop-before.records.items in
    let place = c.unwrap-place.result in
    let stands : slice_get order c.loop-before.before ≡ Some place =
    sym c.place_at.ensures ∙ c.unwrap-place.ensures in
    let below : place < length left =
    let low = within rs order c.loop-before.before place c.requires stands in
    omega (arith, low, c.loop-before.invariant.long) in
    let read : slice_get left place ≡ Some c.replace.result =
    slice_get_read left (length left) place c.index_mut.result.now refl below c.index_mut.ensures.value
    ∙ ap (λ (r : Record). Some r) (sym c.replace.ensures.value) in
    rw c.in_ok-push.ensures.items
    (moved_more c.loop-before.before place order rs left c.loop-before.ordered.items c.replace.result
    c.replace.new.dest c.requires stands c.loop-before.invariant read)
