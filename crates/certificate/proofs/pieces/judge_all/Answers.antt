use Rattle.std.proofs.Common.{arith}
use Rattle.certificate.proofs.PieceLemmas.{AreJudged-cuts}
use Rattle.certificate.proofs.pieces.judge_all.Goals as goal

pub returns : goal.returns
returns g c =
    AreJudged-cuts c.args.version c.args.text.now c.args.cuts.now c.in_ok-pieces.pieces.items c.requires
    (omega (arith, c.in_ok-pieces.ensures.len, c.in_ok-pieces.pieces.ok))
    (λ i d h. (c.in_ok-pieces.ensures.each i d h).1.met)
