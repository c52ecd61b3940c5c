use Rattle.checker.proofs.ReadingLemmas.{clear_and_known}
use Rattle.checker.proofs.phases.ask_sound.Goals as goal

pub invariant_of-answer : goal.invariant_of-answer
invariant_of-answer g c =
    let view = c.args.sound.now in
    clear_and_known view c.in_ok-order.order c.in_ok-known.known c.run-run.ensures.is_sound
    (rw c.in_ok-order.was at c.order_and_known-order.ensures.clear)
    (rw c.in_ok-order.was at c.order_and_known-order.ensures.linearization)
    (rw c.in_ok-order.was at c.order_and_known-order.ensures.greedy)
    (rw c.in_ok-known.was at c.order_and_known-order.ensures.known)
