use Rattle.std.proofs.Common.{◌∙◌, subst}
use Rattle.task_tree.specs.Runs.{RunView}
use Rattle.checker.specs.Search.{ClearView}
use Rattle.checker.specs.Readings.{by_task}
use Rattle.checker.specs.Verdicts.{AreComplete}
use Rattle.checker.specs.Starts.{AreReady, IsFirstLateAt}
use Rattle.checker.specs.Deciding.{IsViolationAt}
use Rattle.checker.specs.declared.verdict.Why.TheVariants.{Unfinished, Predecessor}
use Rattle.checker.proofs.DecidingLemmas.{number_within, unfinished_decided, covered_decided}
use Rattle.checker.proofs.DecidingLemmas.{violation_by_late}
use Rattle.checker.proofs.DecidingLemmas.{complete_at}
use Rattle.checker.proofs.deciding.Deciding.violation_at.Goals as goal

pub number-requires : goal.number-requires
number-requires c =
    let view = c.self.inside.clear.now in
    number_within view c.own-own.result.now c.args.at c.sound.ensures.is_clear
    (c.own-own.ensures.value ∙ c.sound.ensures.own) (rw (← c.self.view_is) at c.requires)

pub returns-in-Some-clause-decided : goal.returns-in-Some-clause-decided
returns-in-Some-clause-decided c =
    let view = c.self.inside.clear.now in
    let P : ClearView → Type 0 =
    λ v. IsViolationAt (by_task v.run.records) c.args.at (Unfinished c.in-Some.task) in
    subst P c.self.view_is (unfinished_decided view c.own-own.result.now c.known.result.now.done
    c.number.result
    c.args.at c.in-Some.task c.sound.ensures.is_clear (c.own-own.ensures.value ∙ c.sound.ensures.own)
    c.known.ensures.own c.known.ensures.credit c.number.ensures.value
    (rw c.in-Some.is at c.in_ok-task.ensures.first_by_credit))

pub returns-in-Some-2-clause-decided : goal.returns-in-Some-2-clause-decided
returns-in-Some-2-clause-decided c =
    let view = c.self.inside.clear.now in
    let covered =
    covered_decided view c.own-own.result.now c.known.result.now.done c.number.result c.args.at
    c.sound.ensures.is_clear (c.own-own.ensures.value ∙ c.sound.ensures.own) c.known.ensures.own
    c.known.ensures.credit c.number.ensures.value
    (rw c.in_default.is at c.in_ok-task.ensures.first_by_credit) in
    let Late : RunView → Type 0 = λ run. IsFirstLateAt run.records c.args.at c.in-Some-2.task in
    let P : ClearView → Type 0 =
    λ v. IsViolationAt (by_task v.run.records) c.args.at (Predecessor c.in-Some-2.task) in
    subst P c.self.view_is
    (violation_by_late view.run.records c.args.at c.in-Some-2.task covered
    (subst Late c.self.invariant (rw c.in-Some-2.is at c.in_ok-task-2.ensures.found)))

pub returns-in-None-clause-decided : goal.returns-in-None-clause-decided
returns-in-None-clause-decided c =
    let view = c.self.inside.clear.now in
    let covered =
    covered_decided view c.own-own.result.now c.known.result.now.done c.number.result c.args.at
    c.sound.ensures.is_clear (c.own-own.ensures.value ∙ c.sound.ensures.own) c.known.ensures.own
    c.known.ensures.credit c.number.ensures.value
    (rw c.in_default.is at c.in_ok-task.ensures.first_by_credit) in
    let Ready : RunView → Type 0 = λ run. AreReady run.records c.args.at in
    let P : ClearView → Type 0 = λ v. AreComplete (by_task v.run.records) c.args.at in
    subst P c.self.view_is
    (complete_at view.run.records c.args.at covered
    (subst Ready c.self.invariant (rw c.in-None.is at c.in_ok-task-2.ensures.found)))
