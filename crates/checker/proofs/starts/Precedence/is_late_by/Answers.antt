use Rattle.std.specs.Prelude.{◌↔◌, IsTrue}
use Rattle.checker.specs.Starts.{IsPredecessorUnfinished}
use Rattle.checker.proofs.LateLemmas.{TellsLate, if_ok, tells_late, none_to_tell}
use Rattle.checker.proofs.starts.Precedence.is_late_by.Goals as goal

pub returns-in-Some-clause-late : goal.returns-in-Some-clause-late
returns-in-Some-clause-late c =
    let rs = c.args.self.now.file.records in
    let own = c.args.self.now.own.run in
    let d = c.in-Some.dependent in
    if_ok (TellsLate own d.index d.bound c.args.task)
    (λ late. IsTrue late ↔ IsPredecessorUnfinished rs c.args.at c.args.task)
    c.is_late_of.result
    (λ answer. tells_late rs own c.args.at d.index d.bound c.args.task answer c.in-Some.ensures)
    c.is_late_of.ensures.late

pub returns-in-None-clause-late : goal.returns-in-None-clause-late
returns-in-None-clause-late c =
    none_to_tell c.args.self.now.file.records c.args.at c.args.task (c.in-None.ensures)
