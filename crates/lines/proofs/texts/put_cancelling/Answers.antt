use Rattle.lines.proofs.PartLemmas.{line-cancelling}
use Rattle.lines.proofs.ItemLemmas.{Puts-both, Puts-same, on_ok}
use Rattle.lines.proofs.texts.put_cancelling.Goals as goal

pub returns : goal.returns
returns c =
    on_ok _
    (λ last.
    Puts-same _ _ _ _ (line-cancelling c.args.head c.args.flags c.args.task)
    (Puts-both _ _ _ _ _ c.in-Ok.ensures last))
    c.put_task_tail.ensures
