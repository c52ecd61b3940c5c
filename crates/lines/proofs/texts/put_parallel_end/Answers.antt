use Rattle.lines.proofs.PartLemmas.{line-parallel_end}
use Rattle.lines.proofs.ItemLemmas.{Puts-both, Puts-same, on_ok}
use Rattle.lines.proofs.texts.put_parallel_end.Goals as goal

pub returns : goal.returns
returns c =
    on_ok _
    (λ last.
    Puts-same _ _ _ _ (line-parallel_end c.args.head c.args.task c.args.parallel)
    (Puts-both _ _ _ _ _ c.in-Ok.ensures last))
    c.put_task_tail.ensures
