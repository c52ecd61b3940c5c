use Rattle.std.proofs.Common.{ℕ, ◌≡◌, ◌∙◌, refl, subst, arith, get_or, below_more}
use Rattle.std.proofs.lemmas.List.{get_or_default}
use Rattle.online.specs.Groups.{group_at, IsClearAt}
use Rattle.online.proofs.GroupWalks.{clear_back}
use Rattle.online.proofs.groups.Groups.are_clear.Goals as goal

pub loop-number-preserved : goal.loop-number-preserved
loop-number-preserved c = (
  below_more (λ k. IsClearAt (group_at c.args.self.now) (get_or c.args.numbers.now k 0) c.args.length)
      c.loop-number.number-index c.loop-number.invariant.0
      (clear_back (group_at c.args.self.now) (group_at c.settle.new.self)
      (get_or c.args.numbers.now c.loop-number.number-index 0) c.args.length
      (λ ends all next are.
      c.in_ok-settle.ensures.counted ends all next (c.loop-number.invariant.1 ends all next are))
      (c.if-not-is_clear.ensures refl)),
  λ ends all next are. c.in_ok-settle.ensures.counted ends all next (c.loop-number.invariant.1 ends all
      next are),
  c.in_ok-settle.ensures.next ∙ c.loop-number.invariant.2,
)

pub returns-clause-clear : goal.returns-clause-clear
returns-clause-clear c = λ yes n has ends all next task are before.
    let (k, low, is) = has in
    let same : get_or c.args.numbers.now k 0 ≡ n = get_or_default c.args.numbers.now k 0 n (omega (
      arith,
      low,
    )) ∙ is in
    subst (λ (m : ℕ). IsClearAt (group_at c.args.self.now) m c.args.length) same
    (c.loop-number.invariant.0 k (omega (arith, low, c.loop-number-test.false))) ends all next task are before
