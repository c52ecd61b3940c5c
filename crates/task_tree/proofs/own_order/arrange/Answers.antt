use Rattle.std.proofs.Common.{ℕ, ◌∙◌, ◌≡◌, ap, arith, length, map}
use Rattle.ompt_events.specs.Turns.{own_places}
use Rattle.task_tree.proofs.OwnOrderLemmas.{own_length}
use Rattle.task_tree.proofs.ArrangeLemmas.{turns_length, sorted_is_own, own_apart, are_inverse}
use Rattle.task_tree.proofs.own_order.arrange.Goals as goal

pub keys_of-requires : goal.keys_of-requires
keys_of-requires c = record {
  few =
      let long = turns_length c.args.trace.now.records c.args.turns.now c.requires.turns in
      omega (arith, long, c.requires.few);
}

-- the places that were read of the sorted keys
own : (c : goal.After-deref-2) → c.in_ok-places.places.items ≡ own_places c.args.trace.now.records
own c =
    sorted_is_own c.args.trace.now.records c.args.turns.now c.in_ok-keys.keys.items
    c.sort_unstable.new.self.items
    c.in_ok-places.places.items c.requires.turns c.in_ok-keys.ensures c.sort_unstable.ensures.permutation
    c.sort_unstable.ensures.sorted
    (c.in_ok-places.ensures ∙ ap (map (λ (key : ℕ × ℕ). key.1)) c.deref.ensures.value)

pub numbers_of-requires-clause-few : goal.numbers_of-requires-clause-few
numbers_of-requires-clause-few c =
    let long = ap length (c.deref-2.ensures.value ∙ own c) ∙ own_length c.args.trace.now.records in
    omega (arith, long, c.requires.few)

pub numbers_of-requires-clause-apart : goal.numbers_of-requires-clause-apart
numbers_of-requires-clause-apart c =
    own_apart c.args.trace.now.records c.deref-2.result.now (c.deref-2.ensures.value ∙ own c)

pub arranged-requires : goal.arranged-requires
arranged-requires c =
    let is : c.in_ok-places.places.items ≡ own_places c.args.trace.now.records =
    sorted_is_own c.args.trace.now.records c.args.turns.now c.in_ok-keys.keys.items
    c.sort_unstable.new.self.items c.in_ok-places.places.items c.requires.turns c.in_ok-keys.ensures
    c.sort_unstable.ensures.permutation c.sort_unstable.ensures.sorted
    (c.in_ok-places.ensures ∙ ap (map (λ (key : ℕ × ℕ). key.1)) c.deref.ensures.value) in
    are_inverse c.args.trace.now.records c.in_ok-places.places.items c.in_ok-numbers.numbers.items is
    (rw c.deref-2.ensures.value at c.in_ok-numbers.ensures)

pub returns : goal.returns
returns c =
    c.arranged.ensures
    ∙ sorted_is_own c.args.trace.now.records c.args.turns.now c.in_ok-keys.keys.items
    c.sort_unstable.new.self.items c.in_ok-places.places.items c.requires.turns c.in_ok-keys.ensures
    c.sort_unstable.ensures.permutation c.sort_unstable.ensures.sorted
    (c.in_ok-places.ensures ∙ ap (map (λ (key : ℕ × ℕ). key.1)) c.deref.ensures.value)
