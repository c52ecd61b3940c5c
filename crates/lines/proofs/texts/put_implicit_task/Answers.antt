use Rattle.lines.proofs.PartLemmas.{line-implicit_task}
use Rattle.lines.proofs.ItemLemmas.{Puts-both, Puts-same, on_ok}
use Rattle.lines.proofs.texts.put_implicit_task.Goals as goal

pub returns : goal.returns
returns c =
    on_ok _
    (λ last.
    Puts-same _ _ _ _
    (line-implicit_task c.args.head c.args.endpoint c.args.actual c.args.index c.args.flags
    c.args.parallel c.args.task)
    (Puts-both _ _ _ _ _ c.in-Ok.ensures
    (Puts-both _ _ _ _ _ c.in-Ok-put_endpoint.ensures
    (Puts-both _ _ _ _ _ c.in-Ok-put_task_flags.ensures
    (Puts-both _ _ _ _ _ c.in-Ok-put_short.ensures
    (Puts-both _ _ _ _ _ c.in-Ok-put_id.ensures last))))))
    c.put_task_tail.ensures
