use Rattle.lines.proofs.PartLemmas.{line-task_create}
use Rattle.lines.proofs.ItemLemmas.{Puts-both, Puts-same, on_ok}
use Rattle.lines.proofs.texts.put_task_create.Goals as goal

pub returns : goal.returns
returns c =
    on_ok _
    (λ last.
    Puts-same _ _ _ _
    (line-task_create c.args.head c.args.deps c.args.flags c.args.task c.args.child)
    (Puts-both _ _ _ _ _ c.in-Ok.ensures
    (Puts-both _ _ _ _ _ c.in-Ok-put_truth.ensures
    (Puts-both _ _ _ _ _ c.in-Ok-put_task_flags.ensures last))))
    c.put_task_tail.ensures
