use Rattle.lines.proofs.PartLemmas.{text-dep}
use Rattle.lines.proofs.ItemLemmas.{Puts-both, Puts-same, on_ok}
use Rattle.lines.proofs.texts.put_dep.Goals as goal

pub returns : goal.returns
returns c =
    on_ok _
    (λ last.
    Puts-same _ _ _ _ (text-dep c.args.item.now)
    (Puts-both _ _ _ _ _ c.in-Ok.ensures (Puts-both _ _ _ _ _ c.in-Ok-put_id.ensures last)))
    c.put.ensures
