use Rattle.std.proofs.Common.{below_more, arith}
use Rattle.checker.specs.Readings.{by_task}
use Rattle.checker.proofs.DecidingLemmas.{first_violation, complete_whole}
use Rattle.checker.proofs.deciding.Deciding.first_violation.Goals as goal

pub returns-in-Some-clause-found : goal.returns-in-Some-clause-found
returns-in-Some-clause-found c =
    first_violation (by_task c.args.self.now.run.records) c.loop-at.at c.in-Some.why
    (rw c.in-Some.is at c.in_ok-why.ensures.decided) c.loop-at.invariant

pub loop-at-preserved : goal.loop-at-preserved
loop-at-preserved c = below_more _ _ c.loop-at.invariant (rw c.in_default.is at c.in_ok-why.ensures.decided)

pub returns-clause-found : goal.returns-clause-found
returns-clause-found c = λ i.
    let long = c.len-at-end.ensures.value in
    complete_whole c.args.self.now.run.records c.loop-at.at i c.loop-at.invariant
    (omega (arith, long, c.loop-at-test.false))
