use Rattle.lines.proofs.ItemLemmas.{Puts-both, Puts-same, quoted-parts, on_ok}
use Rattle.lines.proofs.texts.put_name.Goals as goal

pub returns : goal.returns
returns c =
    on_ok _
    (λ last.
    Puts-same _ _ _ _ (quoted-parts c.args.text.now c.args.name.now c.requires)
    (Puts-both _ _ _ _ _ c.in_ok-put_both.ensures last))
    c.put_both-2.ensures
