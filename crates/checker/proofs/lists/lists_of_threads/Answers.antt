use Rattle.std.proofs.Common.{◌≡◌, ◌∙◌, ◌+◌, ◌-◌, Some, length, sym, ap, arith}
use Rattle.ompt_events.specs.Places.{thread_at}
use Rattle.checker.proofs.lists.lists_of_threads.Goals as goal

pub loop-step-init : goal.loop-step-init
loop-step-init c =
    let rs = c.args.run.now.records in
    let new = rw c.len-count.ensures.value at c.in_ok-lists.ensures.lists in
    record {
      keys =
          λ i thread runs.
          let most = c.last_thread.ensures i thread runs in
          let is = c.from.ensures in let len = c.in_ok-lists.ensures.keys in omega (arith, most, is, len);
      lists = λ from is. let end : from ≡ length rs = omega (arith, is) in rw end (new (thread_at rs));
      rising = rw c.len-count.ensures.value at c.in_ok-lists.ensures.rising;
    }

pub put_first-requires-clause-key : goal.put_first-requires-clause-key
put_first-requires-clause-key c =
    let at = c.len-count.result - 1 - c.loop-step.step in
    c.loop-step.invariant.keys at c.from-in-loop-step.result
    (c.thread.ensures ∙ ap Some (sym c.from-in-loop-step.ensures))

pub loop-step-preserved : goal.loop-step-preserved
loop-step-preserved c =
    let rs = c.args.run.now.records in
    let at = c.len-count.result - 1 - c.loop-step.step in
    let inside = c.loop-step-test.true in
    let count = c.len-count.ensures.value in
    let was = c.loop-step.invariant.lists (at + 1) (omega (arith, inside, count)) in
    let more =
    c.put_first.ensures.lists (thread_at rs) (length rs)
    (c.thread.ensures ∙ ap Some (sym c.from-in-loop-step.ensures)) c.loop-step.invariant.rising was in
    record {
      keys = λ i thread there. rw c.put_first.ensures.keys (c.loop-step.invariant.keys i thread there);
      lists = λ from is. let here : from ≡ at = omega (arith, is, inside, count) in rw here more.0;
      rising = more.1;
    }
