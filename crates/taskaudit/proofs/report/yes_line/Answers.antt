use Rattle.std.proofs.Common.{◌∙◌}
use Rattle.std.proofs.lemmas.Result.{IfOk-weaker}
use Rattle.taskaudit.proofs.report.yes_line.Goals as goal

pub returns : goal.returns
returns c =
    IfOk-weaker c.format.result _ _
    (λ s is rs count are. is ∙ (rw (count, are.entries, are.tasks, are.waits)))
    c.format.ensures.ok
