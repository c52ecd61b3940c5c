use Rattle.std.proofs.lemmas.List.Sorted.{IsPermutation-map}
use Rattle.checker.proofs.QueueLemmas.{least_on_top}
use Rattle.checker.proofs.queue.Queue.take.Goals as goal

pub returns-clause-taken : goal.returns-clause-taken
returns-clause-taken c =
    rw (← c.self.view_is) (IsPermutation-map (λ r. r.0) _ _ c.in_ok-place.ensures.permutation)

pub returns-clause-least : goal.returns-clause-least
returns-clause-least c =
    rw (← c.self.view_is) (least_on_top _ _ (c.in_ok-place.ensures.heap_order c.self.invariant).1)
