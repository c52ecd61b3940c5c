use Rattle.taskaudit.proofs.LookLemmas.{keeps_both, keeps_consumes, keeps_itself}
use Rattle.taskaudit.proofs.looking.read_some.Goals as goal

pub loop-init : goal.loop-init
loop-init g c = keeps_itself _

pub loop-preserved : goal.loop-preserved
loop-preserved g c = keeps_both _ _ _ c.loop.invariant c.in-Err-Again.ensures.bytes

pub returns-in-Ok-clause-bytes : goal.returns-in-Ok-clause-bytes
returns-in-Ok-clause-bytes g c =
    let read = c.in-Ok.ensures.bytes in
    (keeps_consumes _ _ _ _ c.loop.invariant read.0, read.1)
