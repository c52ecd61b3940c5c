use Rattle.lines.proofs.ItemLemmas.{Puts-both, on_ok}
use Rattle.lines.proofs.texts.put_task_tail.Goals as goal

pub returns : goal.returns
returns c =
    on_ok _
    (λ last.
    Puts-both _ _ _ _ _ c.in-Ok.ensures
    (Puts-both _ _ _ _ _ c.in-Ok-put_short.ensures
    (Puts-both _ _ _ _ _ c.in-Ok-put_id.ensures
    (Puts-both _ _ _ _ _ c.in-Ok-put_byte.ensures last))))
    c.put.ensures
