use Rattle.std.proofs.Common.{rules, ℕ}
use Rattle.std.proofs.lemmas.List.Sorted.{IsNonDecreasingBy-from_sort, answers_always}
use Rattle.callbacks.specs.Buffers.{BufferView}
use Rattle.callbacks.proofs.closed.by_thread.Goals as goal

pub returns-clause-sorted : goal.returns-clause-sorted
returns-clause-sorted c =
    let key : BufferView → ℕ = λ b. b.thread in
    IsNonDecreasingBy-from_sort key c.sort_unstable_by_key.new.self.items
    (c.sort_unstable_by_key.ensures.sorted key (answers_always _ _ _ (λ f a r g h. search rules)))
