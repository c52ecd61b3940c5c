use Rattle.std.proofs.Common.{◌≡◌, ◌<◌, ◌∙◌, length, sym, ap, arith, below_more, rules, get_or}
use Rattle.std.proofs.lemmas.List.{get_or-replicate}
use Rattle.task_states.proofs.NumberingLemmas.{counted_more, no_seq_gap, first_gap, free_of_gaps}
use Rattle.task_states.proofs.numbering.gap.Goals as goal

pub loop-at-init : goal.loop-at-init
loop-at-init c = record {
  threads = search rules;
  counted = λ t below. get_or-replicate 256 t 0 0 below;
  free = λ k below. absurd (omega arith);
}

pub returns-then-event-counts : goal.returns-then-event-counts
returns-then-event-counts c =
    let rs = c.args.trace.now.records in
    let i = c.loop-at.at in
    let r = c.event-item.result in
    let same = c.records-event-items.ensures.value in
    let counted = c.loop-at.invariant.counted r.thread (omega arith) in
    first_gap rs i r (omega (arith, ap length same)) (c.event-item.is ∙ ap (λ xs. get_or xs i r) same)
    (λ e.
    c.if-event-counts.true
    (e ∙ sym counted ∙ ap (λ t. get_or c.loop-at.counts t 0) (sym c.from-thread.ensures)))
    c.loop-at.invariant.free

pub loop-at-preserved : goal.loop-at-preserved
loop-at-preserved c =
    let rs = c.args.trace.now.records in
    let i = c.loop-at.at in
    let r = c.event-item.result in
    let counts = c.loop-at.counts in
    let same = c.records-event-items.ensures.value in
    let within : i < length rs = omega (arith, ap length same) in
    let read : r ≡ get_or rs i r = c.event-item.is ∙ ap (λ xs. get_or xs i r) same in
    let numbered =
    c.if-event-counts.false ∙ ap (λ t. get_or counts t 0) c.from-thread.ensures
    ∙ c.loop-at.invariant.counted r.thread (omega arith) in
    record {
      threads = search rules;
      counted =
          rw c.from-thread.ensures
          (counted_more rs i r counts within read (omega arith) c.loop-at.invariant.counted);
      free = below_more _ _ c.loop-at.invariant.free (no_seq_gap rs i r within read numbered);
    }

pub returns : goal.returns
returns c =
    free_of_gaps c.args.trace.now.records c.loop-at.at c.loop-at.invariant.free
    (omega (arith, ap length c.records-event-items.ensures.value))
