use Rattle.std.proofs.Common.{ℕ, ap, subst}
use Rattle.checker.specs.Readings.{by_task}
use Rattle.checker.specs.Verdicts.{AreComplete}
use Rattle.checker.specs.Search.{ClearView, IsClearView, IsFirstViolation}
use Rattle.checker.proofs.VerdictLemmas.{approved}
use Rattle.checker.proofs.MissedLemmas.{rejected}
use Rattle.checker.proofs.ReadingLemmas.{shows_none}
use Rattle.checker.proofs.checking.verdict_of.Goals as goal

pub returns-in-Some : goal.returns-in-Some
returns-in-Some c = λ is.
    let clear : IsClearView c.args.clear = subst IsClearView c.clear.view_is c.clear.invariant.0 in
    let found : IsFirstViolation (by_task c.args.clear.run.records) c.in-Some.at c.in-Some.why =
    rw c.in-Some.is at is in
    rejected c.args.clear c.in-Some.at c.in-Some.why clear found

pub returns-in-None : goal.returns-in-None
returns-in-None c = λ is.
    let rs = c.args.clear.run.records in
    let clear : IsClearView c.args.clear = subst IsClearView c.clear.view_is c.clear.invariant.0 in
    let complete : (i : ℕ) → AreComplete (by_task rs) i = rw c.in-None.is at is in
    let order_is = ap (λ (v : ClearView). v.order) c.clear.view_is in
    rw order_is
    (approved (by_task rs) c.args.clear.order (shows_none rs clear.well_formed) clear.linearization
    clear.greedy complete)
