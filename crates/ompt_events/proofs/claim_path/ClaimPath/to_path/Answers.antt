use Rattle.std.proofs.Common.{[], ◌∷◌, ◌++◌, ap, sym, ◌∙◌}
use Rattle.ompt_events.proofs.ClaimPathLemmas.{take_more}
use Rattle.ompt_events.proofs.claim_path.ClaimPath.to_path.Goals as goal

pub numbers-preserved : goal.numbers-preserved
numbers-preserved c =
    c.in_ok-push.ensures.items
    ∙ ap (λ xs. xs ++ c.number.result ∷ []) c.numbers.invariant
    ∙ sym (take_more c.args.self.now c.numbers.at c.number.result c.number.ensures)
