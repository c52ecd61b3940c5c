use Rattle.std.proofs.Common.{◌≡◌, ◌∙◌, ℕ, ap, rules, length, arith}
use Rattle.std.proofs.lemmas.List.Sorted.{IsNonDecreasingBy-from_sort, answers_always}
use Rattle.wait_coverage.proofs.OrderLemmas.{ranked_more, ranked_moved}
use Rattle.wait_coverage.proofs.order.by_depth.Goals as goal

pub loop-index-preserved : goal.loop-index-preserved
loop-index-preserved c =
    rw (c.in_ok-push.ensures.items, c.depth_at.ensures)
    (ranked_more c.args.family.now c.loop-index.index c.loop-index.ranked.items c.loop-index.invariant)

pub returns-clause-rising : goal.returns-clause-rising
returns-clause-rising c =
    let sorted = c.sort_unstable_by_key.new.self.items in
    let key : ℕ × ℕ → ℕ = λ e. e.0 in
    IsNonDecreasingBy-from_sort key sorted
    (c.sort_unstable_by_key.ensures.sorted key (answers_always _ _ _ (λ f a r g h. search rules)))

pub returns-clause-all : goal.returns-clause-all
returns-clause-all c =
    let same = ap length (c.as_slice-index-end.ensures ∙ c.tasks-2.ensures) in
    let all : c.loop-index.index ≡ length c.args.family.now.tasks =
    omega (arith, same, c.loop-index.auto.index-end, c.loop-index-test.false) in
    rw all
    at
    (ranked_moved c.args.family.now c.loop-index.index c.loop-index.ranked.items
    c.sort_unstable_by_key.new.self.items c.loop-index.invariant
    c.sort_unstable_by_key.ensures.permutation)
