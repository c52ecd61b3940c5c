use Rattle.std.proofs.Common.{refl}
use Rattle.taskaudit.proofs.telling.tell.Goals as goal

pub returns-in-Err-NotText : goal.returns-in-Err-NotText
returns-in-Err-NotText g c =
    rw (c.in-Err-NotText.is, c.in-Err-NotText.field-0-is) (refl, c.print.ensures.made)
