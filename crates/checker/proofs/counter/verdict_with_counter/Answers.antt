use Rattle.std.proofs.Common.{ℕ, ap, subst}
use Rattle.checker.specs.Readings.{by_task}
use Rattle.checker.specs.Verdicts.{AreComplete, task_of}
use Rattle.checker.specs.Search.{ClearView, IsClearView, IsFirstViolation}
use Rattle.checker.proofs.VerdictLemmas.{approved}
use Rattle.checker.proofs.MissedLemmas.{rejected, required_within}
use Rattle.checker.proofs.CounterLemmas.{task_counter}
use Rattle.checker.proofs.ReadingLemmas.{of_tasks, shows_none}
use Rattle.checker.proofs.counter.verdict_with_counter.Goals as goal

pub counter_of-requires : goal.counter_of-requires
counter_of-requires c =
    let rs = c.args.clear.run.records in
    let found : IsFirstViolation (by_task rs) c.in-Some.at c.in-Some.why =
    rw c.in-Some.is at c.in_ok-at.ensures.found in
    required_within (by_task rs) c.in-Some.at (task_of c.in-Some.why) (of_tasks rs)
    found.unfinished.so.required

pub returns-in_ok-counter-in-Some-clause-verdict : goal.returns-in_ok-counter-in-Some-clause-verdict
returns-in_ok-counter-in-Some-clause-verdict c =
    let clear : IsClearView c.args.clear = subst IsClearView c.clear.view_is c.clear.invariant.0 in
    let found : IsFirstViolation (by_task c.args.clear.run.records) c.in-Some.at c.in-Some.why =
    rw c.in-Some.is at c.in_ok-at.ensures.found in
    rejected c.args.clear c.in-Some.at c.in-Some.why clear found

pub returns-in_ok-counter-in-Some-clause-counter : goal.returns-in_ok-counter-in-Some-clause-counter
returns-in_ok-counter-in-Some-clause-counter c =
    let clear : IsClearView c.args.clear = subst IsClearView c.clear.view_is c.clear.invariant.0 in
    let found : IsFirstViolation (by_task c.args.clear.run.records) c.in-Some.at c.in-Some.why =
    rw c.in-Some.is at c.in_ok-at.ensures.found in
    let counter = c.in_ok-counter-in-Some.ensures in
    task_counter c.args.clear c.in-Some.at (task_of c.in-Some.why) c.in_ok-counter-in-Some.counter clear
    counter.linearization counter.earliest found.unfinished.so

pub returns-in-None-clause-verdict : goal.returns-in-None-clause-verdict
returns-in-None-clause-verdict c =
    let rs = c.args.clear.run.records in
    let clear : IsClearView c.args.clear = subst IsClearView c.clear.view_is c.clear.invariant.0 in
    let complete : (i : ℕ) → AreComplete (by_task rs) i = rw c.in-None.is at c.in_ok-at.ensures.found in
    let order_is = ap (λ (v : ClearView). v.order) c.clear.view_is in
    rw order_is
    (approved (by_task rs) c.args.clear.order (shows_none rs clear.well_formed) clear.linearization
    clear.greedy complete)
