use Rattle.std.specs.Prelude.{MatchOption}
use Rattle.checker.specs.Starts.{AreReady, IsFirstLateAt}
use Rattle.checker.proofs.LateLemmas.{FindsLate, if_ok, late_found}
use Rattle.checker.proofs.starts.Precedence.late_by.Goals as goal

pub returns-in-Some-clause-found : goal.returns-in-Some-clause-found
returns-in-Some-clause-found c =
    let rs = c.args.self.now.file.records in
    let own = c.args.self.now.own.run in
    let d = c.in-Some.dependent in
    if_ok (FindsLate rs own d.index d.bound)
    (λ found. MatchOption found (AreReady rs c.args.at) (IsFirstLateAt rs c.args.at)) c.late_of.result
    (λ found. late_found rs own c.args.at d.index d.bound found c.in-Some.ensures) c.late_of.ensures.found

pub returns-in-None-clause-found : goal.returns-in-None-clause-found
returns-in-None-clause-found c = λ task preceded. absurd (c.in-None.ensures task preceded)
