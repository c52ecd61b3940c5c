use Rattle.std.proofs.Common.{◌∙◌, [], ◌∷◌, ◌++◌, ap, sym}
use Rattle.ompt_events.proofs.PlaceLemmas.{range_more}
use Rattle.wait_coverage.proofs.order.indices.Goals as goal

pub loop-index-preserved : goal.loop-index-preserved
loop-index-preserved c =
    c.in_ok-push.ensures.items ∙ ap (λ order. order ++ c.loop-index.index ∷ []) c.loop-index.invariant
    ∙ sym (range_more c.loop-index.index)
