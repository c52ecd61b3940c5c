use Rattle.lines.proofs.PartLemmas.{line-finishing_in_turn}
use Rattle.lines.proofs.ItemLemmas.{Puts-both, Puts-same, on_ok}
use Rattle.lines.proofs.texts.put_finishing_in_turn.Goals as goal

pub returns : goal.returns
returns c =
    on_ok _
    (λ last.
    Puts-same _ _ _ _
    (line-finishing_in_turn c.args.head c.args.status c.args.turns c.args.prior c.args.next
    c.args.claim.now)
    (Puts-both _ _ _ _ _ c.in-Ok.ensures
    (Puts-both _ _ _ _ _ c.in-Ok-put_id_or_null.ensures
    (Puts-both _ _ _ _ _ c.in-Ok-put_short.ensures
    (Puts-both _ _ _ _ _ c.in-Ok-put_path.ensures
    (Puts-both _ _ _ _ _ c.in-Ok-put_id.ensures
    (Puts-both _ _ _ _ _ c.in-Ok-put_short-2.ensures
    (Puts-both _ _ _ _ _ c.in-Ok-put_id-2.ensures last))))))))
    c.put_status_tail.ensures
