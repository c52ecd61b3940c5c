use Rattle.std.proofs.lemmas.Map.Keys.{le_from_not_gt, ge_from_not_lt}
use Rattle.online.proofs.SpanLemmas.{not_gt_from_le}
use Rattle.online.proofs.spans.nearest.Goals as goal

pub returns-in-Some-clause-nearest : goal.returns-in-Some-clause-nearest
returns-in-Some-clause-nearest c =
    let within = (c.range.ensures.in_range tt).3 _ _ c.in-Some.ensures.steps in
    let greatest = (c.range.ensures.in_range tt).4 _ _ c.in-Some.ensures.steps in (
      le_from_not_gt c.in-Some.first.now c.args.id within.0.1,
      within.1,
      λ other most there.
          ge_from_not_lt c.in-Some.first.now other
          (greatest other (tt, not_gt_from_le other c.args.id most) there),
    )
