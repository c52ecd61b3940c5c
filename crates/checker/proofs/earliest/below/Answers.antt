use Rattle.std.proofs.Common.{◌≡◌, ◌∙◌, ◌++◌, [], ◌∷◌, Some, true, false, sym, ap, cond}
use Rattle.std.proofs.lemmas.List.{append-nil}
use Rattle.std.specs.Prelude.{filter, take, slice_get}
use Rattle.checker.specs.Counter.{is_below}
use Rattle.checker.proofs.CounterLemmas.{filter_more, below_told}
use Rattle.checker.proofs.earliest.below.Goals.{then-is_below+in_ok-push, else-is_below}
use Rattle.checker.proofs.earliest.below.Goals as goal

pub loop-before-preserved : goal.loop-before-preserved
loop-before-preserved c =
    let p = is_below c.run-run.result.now.records c.args.bounds.now in
    let order = c.args.ordered.now.order in
    let n = c.loop-before.before in
    let place = c.unwrap-place.result in
    let stands : slice_get order n ≡ Some place =
    rw c.order-order.ensures at (sym c.place_at.ensures ∙ c.unwrap-place.ensures) in
    let told : c.is_below.result ≡ p place =
    below_told c.run-run.result.now.records c.args.bounds.now place c.is_below.result
    c.is_below.ensures in
    let more = filter_more p order n place stands in
    elim c.if-is_below.branch [
      | then-is_below+in_ok-push w ↦
          let below : p place ≡ true = sym told ∙ w.if-is_below.true in
          rw w.places-is
          (w.in_ok-push.ensures.items ∙ ap (λ l. l ++ place ∷ []) c.loop-before.invariant
          ∙ sym (more ∙ ap (λ t. filter p (take n order) ++ cond t (place ∷ []) []) below))
      | else-is_below w ↦
          let past : p place ≡ false = sym told ∙ w.if-is_below.false in
          rw w.places-is
          (c.loop-before.invariant
          ∙ sym
          (more ∙ ap (λ t. filter p (take n order) ++ cond t (place ∷ []) []) past
          ∙ append-nil (filter p (take n order))))
    ]
