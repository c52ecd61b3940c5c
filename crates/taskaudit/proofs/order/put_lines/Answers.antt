use Rattle.std.proofs.Common.{◌≡◌, ◌∙◌, ◌<◌, arith, length, sym, Some}
use Rattle.std.proofs.lemmas.Option.{slice_get-get_or}
use Rattle.std.specs.Prelude.{slice_get}
use Rattle.ompt_events.proofs.ListLemmas.{get_contains}
use Rattle.taskaudit.proofs.OrderLemmas.{lines_more}
use Rattle.taskaudit.proofs.order.put_lines.Goals as goal

pub unwrap-place-requires : goal.unwrap-place-requires
unwrap-place-requires c =
    let order = c.args.order.now in
    let below : c.loop-before.before < length order =
    omega (arith, c.loop-before-test.true, c.len-before-end.ensures) in
    rw (c.place_at.ensures, slice_get-get_or order c.loop-before.before 0 below)

pub thread-requires : goal.thread-requires
thread-requires c =
    c.requires c.unwrap-place.result
    (get_contains c.args.order.now c.unwrap-place.result c.loop-before.before
    (sym c.place_at.ensures ∙ c.unwrap-place.ensures))

pub seq-requires : goal.seq-requires
seq-requires c =
    c.requires c.unwrap-place.result
    (get_contains c.args.order.now c.unwrap-place.result c.loop-before.before
    (sym c.place_at.ensures ∙ c.unwrap-place.ensures))

pub loop-before-preserved : goal.loop-before-preserved
loop-before-preserved c =
    let rs = c.args.trace.now.records in
    let place = c.unwrap-place.result in
    let stands : slice_get c.args.order.now c.loop-before.before ≡ Some place =
    sym c.place_at.ensures ∙ c.unwrap-place.ensures in
    c.in_ok-put_line.ensures
    ∙ rw c.loop-before.invariant
    (lines_more rs c.args.order.now c.loop-before.before place c.thread.result c.seq.result
    c.args.text.now.items stands c.thread.ensures c.seq.ensures)
