use Rattle.lines.proofs.PartLemmas.{text-dep}
use Rattle.lines.proofs.TakeLemmas.{Takes-both, Takes-same}
use Rattle.lines.proofs.parts.dep.Goals as goal

pub returns : goal.returns
returns c =
    Takes-same _ _ _ _ (text-dep (record { var = c.in_ok-var.var; kind = c.in_ok-kind.kind }))
    (Takes-both _ _ _ _ _ (Takes-both _ _ _ _ _ c.in_ok-rest.ensures c.in_ok-kind.ensures)
    (Takes-both _ _ _ _ _ (Takes-both _ _ _ _ _ c.in_ok-rest-2.ensures c.in_ok-var.ensures)
    c.in_ok-behind.ensures))
