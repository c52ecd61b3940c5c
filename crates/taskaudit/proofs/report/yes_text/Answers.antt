use Rattle.std.proofs.Common.{sym}
use Rattle.std.proofs.lemmas.Result.{IfOk-weaker}
use Rattle.taskaudit.proofs.report.yes_text.Goals as goal

pub returns : goal.returns
returns c =
    IfOk-weaker c.yes_line.result _ _
    (λ s tells. tells c.args.trace.now.records (sym c.len.ensures.value) c.requires)
    c.yes_line.ensures
