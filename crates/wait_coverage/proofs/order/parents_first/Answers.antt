use Rattle.std.proofs.Common.{◌∙◌, ap, length}
use Rattle.wait_coverage.proofs.OrderLemmas.{range_first, ranked_first}
use Rattle.wait_coverage.proofs.order.parents_first.Goals as goal

pub returns-then-are_parents_lower : goal.returns-then-are_parents_lower
returns-then-are_parents_lower c =
    λ records are.
    rw c.in_ok-indices.ensures
    (range_first c.args.family.now (length c.as_slice.result.now)
    (ap length (c.as_slice.ensures ∙ c.tasks.ensures))
    (c.are_parents_lower.ensures c.if-are_parents_lower.true))

pub returns : goal.returns
returns c = λ records are.
    let first =
    ranked_first records c.args.family.now c.in_ok-ranked.ranked.items are c.in_ok-ranked.ensures.all
    c.in_ok-ranked.ensures.rising in
    rw (c.in_ok-without_depths.ensures, c.as_slice-2.ensures.value) first
