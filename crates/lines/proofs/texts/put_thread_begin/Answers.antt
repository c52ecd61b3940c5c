use Rattle.lines.proofs.PartLemmas.{line-thread_begin}
use Rattle.lines.proofs.ItemLemmas.{Puts-both, Puts-same, on_ok}
use Rattle.lines.proofs.texts.put_thread_begin.Goals as goal

pub returns : goal.returns
returns c =
    on_ok _
    (λ last.
    Puts-same _ _ _ _ (line-thread_begin c.args.head c.args.kind)
    (Puts-both _ _ _ _ _ c.in-Ok.ensures
    (Puts-both _ _ _ _ _ c.in-Ok-put_short.ensures
    (Puts-both _ _ _ _ _ c.in-Ok-put_short-2.ensures
    (Puts-both _ _ _ _ _ c.in-Ok-put_byte.ensures last)))))
    c.put.ensures
