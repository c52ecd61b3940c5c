use Rattle.checker.proofs.FindingsLemmas.{any_late_if, ready_not}
use Rattle.checker.proofs.starts.Precedence.is_any_late_by.Goals as goal

pub returns-in-Some : goal.returns-in-Some
returns-in-Some c =
    let d = c.in-Some.dependent in
    any_late_if c.args.self.now.file.records c.args.self.now.own.run c.args.at d.index d.bound
    c.is_any_late_of.result c.in-Some.ensures c.is_any_late_of.ensures

pub returns-in-None : goal.returns-in-None
returns-in-None c =
    ready_not c.args.self.now.file.records c.args.at
    (λ task preceded. absurd (c.in-None.ensures task preceded))
