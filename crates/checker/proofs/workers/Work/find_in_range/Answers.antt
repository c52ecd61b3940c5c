use Rattle.std.proofs.Common.{below_more, subst, arith}
use Rattle.checker.specs.Readings.{by_task}
use Rattle.checker.specs.Verdicts.{AreComplete}
use Rattle.checker.specs.Deciding.{WorkView, IsViolationAt}
use Rattle.checker.proofs.workers.Work.find_in_range.Goals as goal

pub returns-in-Some-clause-found : goal.returns-in-Some-clause-found
returns-in-Some-clause-found g c =
    let P : WorkView → Type 0 = λ w. IsViolationAt (by_task w.records) c.loop-at.at c.in-Some.why in
    record {
      in_range = grind arith;
      violation = subst P c.self.view_is (rw c.in-Some.is at c.in_ok-why.ensures.decided);
      before = λ i low is. c.loop-at.invariant i low is.0;
    }

pub loop-at-preserved : goal.loop-at-preserved
loop-at-preserved g c =
    let P : WorkView → Type 0 = λ w. AreComplete (by_task w.records) c.loop-at.at in
    let here = subst P c.self.view_is (rw c.in_default.is at c.in_ok-why.ensures.decided) in
    below_more _ _ c.loop-at.invariant (λ _. here)

pub returns-clause-found : goal.returns-clause-found
returns-clause-found g c = λ i is.
    let end = c.begin-at-end.ensures.begin in
    c.loop-at.invariant i (omega (arith, end, is.1, c.loop-at-test.false)) is.0
