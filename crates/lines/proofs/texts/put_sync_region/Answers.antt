use Rattle.lines.proofs.PartLemmas.{line-sync_region}
use Rattle.lines.proofs.ItemLemmas.{Puts-both, Puts-same, on_ok}
use Rattle.lines.proofs.texts.put_sync_region.Goals as goal

pub returns : goal.returns
returns c =
    on_ok _
    (λ last.
    Puts-same _ _ _ _
    (line-sync_region c.args.head c.args.kind c.args.endpoint c.args.parallel c.args.task)
    (Puts-both _ _ _ _ _ c.in-Ok.ensures
    (Puts-both _ _ _ _ _ c.in-Ok-put_sync_kind.ensures
    (Puts-both _ _ _ _ _ c.in-Ok-put_id_or_null.ensures last))))
    c.put_task_tail.ensures
