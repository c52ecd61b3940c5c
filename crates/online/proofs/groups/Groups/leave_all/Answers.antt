use Rattle.std.proofs.Common.{ℕ, ◌≡◌, ◌∙◌, ◌+◌, List, ◌∷◌, subst, drop, get_or}
use Rattle.online.specs.Groups.{group_at}
use Rattle.online.proofs.GroupWalks.{AreLeft, less_step, rest_from}
use Rattle.online.proofs.groups.Groups.leave_all.Goals as goal

pub loop-number-preserved : goal.loop-number-preserved
loop-number-preserved c = (
  λ ends all next task over left are.
      let (less, is, counted, low) = c.loop-number.invariant.0 ends all next task over left are in
      let numbers = c.args.numbers.now in
      let i = c.loop-number.number-index in
      let same : drop i numbers ≡ get_or numbers i 0 ∷ drop (i + 1) numbers =
      rest_from numbers i c.loop-number-test.true in
      less_step ends all less (group_at c.loop-number.self) (group_at c.leave.new.self) next task
      c.args.length
      (get_or numbers i 0) (drop (i + 1) numbers) over c.in_ok-leave.ensures.left is counted
      (subst (λ (l : List ℕ). AreLeft l less task) same low),
  c.in_ok-leave.ensures.next ∙ c.loop-number.invariant.1,
)

pub returns-clause-left : goal.returns-clause-left
returns-clause-left c = λ ends all next task over left are.
    let (less, is, counted, low) = c.loop-number.invariant.0 ends all next task over left are in
    (less, is, counted)
