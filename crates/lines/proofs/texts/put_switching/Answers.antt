use Rattle.lines.proofs.PartLemmas.{line-switching}
use Rattle.lines.proofs.ItemLemmas.{Puts-both, Puts-same, on_ok}
use Rattle.lines.proofs.texts.put_switching.Goals as goal

pub returns : goal.returns
returns c =
    on_ok _
    (λ last.
    Puts-same _ _ _ _ (line-switching c.args.head c.args.status c.args.prior c.args.next)
    (Puts-both _ _ _ _ _ c.in-Ok.ensures (Puts-both _ _ _ _ _ c.in-Ok-put_id.ensures last)))
    c.put_status_tail.ensures
