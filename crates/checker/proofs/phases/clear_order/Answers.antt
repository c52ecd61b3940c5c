use Rattle.std.proofs.Common.{[], ◌∷◌, refl}
use Rattle.std.proofs.lemmas.Result.{err_from_is_err_and}
use Rattle.ompt_events.specs.declared.cause.Cause.TheVariants.{TargetTask}
use Rattle.ompt_events.specs.CauseNames.{before}
use Rattle.ompt_events.specs.Causes.{IsFreeOf}
use Rattle.ompt_events.specs.Faults.{FindsFirst}
use Rattle.checker.proofs.PhaseLemmas.{fault_shown, least_more, clear_more, only_clear}
use Rattle.checker.proofs.phases.clear_order.Goals as goal

pub returns-in_err-exclude-clause-least : goal.returns-in_err-exclude-clause-least
returns-in_err-exclude-clause-least c =
    let rs = c.args.sound.now.run.records in
    let target : FindsFirst rs TargetTask c.target.result = rw c.run-run.ensures.value at c.target.ensures in
    let p =
    err_from_is_err_and c.from_residual-in_err-exclude.result c.from_residual-in_err-exclude.ensures.1 in
    rw (p.1, p.2)
    (least_more rs (before TargetTask) (TargetTask ∷ []) [] c.in_err-exclude.field-0.0 refl
    c.in_ok-order.ensures.clear
    (fault_shown rs (TargetTask ∷ []) c.in_err-exclude.field-0.0 refl
    (c.in_err-exclude.ensures.fault rs target)))

pub returns-clause-clear : goal.returns-clause-clear
returns-clause-clear c =
    let rs = c.args.sound.now.run.records in
    let target : FindsFirst rs TargetTask c.target.result = rw c.run-run.ensures.value at c.target.ensures in
    let free : IsFreeOf rs TargetTask = c.in_ok-exclude.ensures.free rs target in
    clear_more rs (before TargetTask) (TargetTask ∷ []) c.in_ok-order.ensures.clear
    (only_clear rs TargetTask free)
