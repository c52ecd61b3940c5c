use Rattle.checker.specs.Readings.{by_task}
use Rattle.checker.specs.Verdicts.{IsUnfinished, task_of}
use Rattle.checker.specs.Deciding.{IsViolationAt}
use Rattle.checker.proofs.FindingsLemmas.{complete_all, count_some, violation_of}
use Rattle.checker.proofs.deciding.Deciding.violation.Goals as goal

pub overflow_sub-others : goal.overflow_sub-others
overflow_sub-others c =
    let reading = by_task c.args.self.now.run.records in
    let decided : IsViolationAt reading c.args.at c.in-Some.why =
    rw c.in-Some.is at c.in_ok-why.ensures.decided in
    count_some (IsUnfinished reading c.args.at) c.in_ok-others-in-Some.field-0 (task_of c.in-Some.why)
    c.in_ok-others-in-Some.ensures.count decided.unfinished

pub unreachable-requires : goal.unreachable-requires
unreachable-requires c =
    c.requires.violated
    ((complete_all c.args.self.now c.args.at c.len-records.ensures.is_clear).0
    (rw c.in-None.is at c.in_ok-why.ensures.decided))

pub returns-clause-violation : goal.returns-clause-violation
returns-clause-violation c =
    violation_of c.args.self.now c.args.at c.in-Some.why c.in_ok-others-in-Some.field-0
    c.len-records.ensures.is_clear (rw c.in-Some.is at c.in_ok-why.ensures.decided)
    c.in_ok-others-in-Some.ensures.count
