use Rattle.std.proofs.Common.{◌≡◌, ◌∙◌, ◌<◌, ◌+◌, ◌-◌, length, Some, sym, ap, arith}
use Rattle.std.proofs.lemmas.Bool.{false≢true}
use Rattle.std.proofs.lemmas.Option.{same_Some, slice_get-get_or}
use Rattle.std.specs.Prelude.{slice_get, slice_index}
use Rattle.ompt_events.specs.HappensBefore.{chain}
use Rattle.checker.specs.Schedule.{Awaits, EachAwaitsOne}
use Rattle.checker.specs.Counter.{OrderedView, IsBelow, AreRaisedTo}
use Rattle.checker.proofs.BeforeLemmas.{passed_more, passed_other, passed_all, before_raised}
use Rattle.checker.proofs.ScheduleLemmas.{awaits_before}
use Rattle.checker.proofs.before.raise_to_all_awaited.Goals as goal
use Rattle.checker.proofs.before.raise_to_all_awaited.Goals.{then-is_below, else-is_below}

pub loop-step-preserved : goal.loop-step-preserved
loop-step-preserved c =
    let is = c.run-run.ensures.is_ordered in
    let rs = c.args.ordered.now.ledger.run.records in
    let order = c.args.ordered.now.order in
    let step = c.loop-step.step in
    let p = c.len-count.result - 1 - step in
    let x = c.unwrap-place.result in
    let old = c.loop-step.bounds in
    let was = c.loop-step.invariant in
    let facts : EachAwaitsOne rs = is.ledger.suspended.facts in
    let same : c.ordered.inside.order.now ≡ order = ap (λ (o : OrderedView). o.order) c.ordered.view_is in
    let count : c.len-count.result ≡ length order = c.len-count.ensures ∙ ap length same in
    let inside : p < length order = let test = c.loop-step-test.true in omega (arith, test, count) in
    let here : p + 1 + step ≡ length order = let test = c.loop-step-test.true in omega (arith, test, count) in
    let there : slice_get order p ≡ Some x =
    sym (ap (λ l. slice_get l p) same) ∙ sym c.place_at.ensures ∙ c.unwrap-place.ensures in
    let read : x ≡ slice_index order p =
    same_Some x (slice_index order p) (sym there ∙ slice_get-get_or order p 0 inside) in
    elim c.if-is_below.branch [
      | then-is_below w ↦
          let raised : AreRaisedTo rs (Awaits rs (slice_index order p)) old w.raise_to_awaited.new.bounds =
          rw (ap (λ (o : OrderedView). o.ledger.run.records) c.ordered.view_is, read)
          at w.raise_to_awaited.ensures in
          let below : IsBelow rs old (slice_index order p) =
          rw (c.run-run.ensures.value, read) at c.is_below.ensures.0 w.if-is_below.true in
          rw w.bounds-is (record {
            kept = λ a is_old. raised.kept a (was.kept a is_old);
            before =
                λ i before.
                before_raised rs (Awaits rs (slice_index order p)) i old w.raise_to_awaited.new.bounds
                (λ k waits.
                chain (awaits_before rs (slice_index order p) k facts waits)
                (was.before i before (slice_index order p) below))
                raised (was.before i before);
            passed =
                passed_more rs order step p old w.raise_to_awaited.new.bounds facts is.linearization here
                raised was.passed;
          })
      | else-is_below w ↦
          rw w.bounds-is (record {
            kept = was.kept;
            before = was.before;
            passed =
                passed_other rs order step p old here
                (λ below.
                false≢true
                (sym w.if-is_below.false
                ∙ (rw (c.run-run.ensures.value, read) at c.is_below.ensures.1) below))
                was.passed;
          })
    ]

pub returns-clause-closed : goal.returns-clause-closed
returns-clause-closed c =
    let is = c.run-run.ensures.is_ordered in
    let order = c.args.ordered.now.order in
    let count : c.len-count.result ≡ length order =
    c.len-count.ensures ∙ ap (λ (o : OrderedView). length o.order) c.ordered.view_is in
    passed_all c.args.ordered.now.ledger.run.records order c.loop-step.step c.loop-step.bounds
    is.linearization (let end = c.loop-step-test.false in omega (arith, end, count))
    c.loop-step.invariant.passed
