use Rattle.lines.proofs.PartLemmas.{text-header}
use Rattle.lines.proofs.ItemLemmas.{Puts-both, Puts-same, on_ok}
use Rattle.lines.proofs.texts.put_header.Goals as goal

pub returns : goal.returns
returns c =
    on_ok _
    (λ last.
    Puts-same _ _ _ _ (text-header c.args.version)
    (Puts-both _ _ _ _ _ c.in-Ok.ensures last))
    c.put.ensures
