use Rattle.lines.proofs.PartLemmas.{line-discarding}
use Rattle.lines.proofs.ItemLemmas.{Puts-both, Puts-same, on_ok}
use Rattle.lines.proofs.texts.put_discarding.Goals as goal

pub returns : goal.returns
returns c =
    on_ok _
    (λ last.
    Puts-same _ _ _ _ (line-discarding c.args.head c.args.flags c.args.task c.args.claim.now)
    (Puts-both _ _ _ _ _ c.in-Ok.ensures
    (Puts-both _ _ _ _ _ c.in-Ok-put_short.ensures
    (Puts-both _ _ _ _ _ c.in-Ok-put_path.ensures
    (Puts-both _ _ _ _ _ c.in-Ok-put_id.ensures last)))))
    c.put_task_tail.ensures
