use Rattle.std.proofs.Common.{◌<◌, length, rules}
use Rattle.credit_ledger.proofs.LockLemmas.{if_ok-map}
use Rattle.teams.proofs.CallLemmas.{read_at}
use Rattle.wait_coverage.proofs.CoverageLemmas.{wait_begin, group_numbers, wait_spans, group_spans}
use Rattle.wait_coverage.proofs.CoverageLemmas.{barrier_spans, waiting_within}
use Rattle.wait_coverage.proofs.coverage.Coverage.spans_of.Goals as goal

pub index-requires : goal.index-requires
index-requires c =
    let known = rw (← c.self.view_is, c.in-Taskwait.is) at c.requires in
    let inside : c.in-Taskwait.begin < length c.self.inside.numbers.items =
    wait_begin _ c.in-Taskwait.task c.in-Taskwait.begin known.0 c.self.invariant known.1 in
    search rules

pub only_span-requires : goal.only_span-requires
only_span-requires c =
    rw c.in-Taskwait.is
    at
    (waiting_within c.args.self.now.teams.run.records c.args.self.now.teams.run.family.tasks
    c.requires.0 c.args.wait.now c.requires.1)

pub index-from-requires : goal.index-from-requires
index-from-requires c =
    let known = rw (← c.self.view_is, c.in-Taskgroup.is) at c.requires in
    let inside : c.in-Taskgroup.begin < length c.self.inside.numbers.items =
    (group_numbers _ c.in-Taskgroup.task c.in-Taskgroup.begin c.in-Taskgroup.end known.0 c.self.invariant
    known.1).0 in
    search rules

pub index-requires-in-Taskgroup : goal.index-requires-in-Taskgroup
index-requires-in-Taskgroup c =
    let known = rw (← c.self.view_is, c.in-Taskgroup.is) at c.requires in
    let inside : c.in-Taskgroup.end < length c.self.inside.numbers.items =
    (group_numbers _ c.in-Taskgroup.task c.in-Taskgroup.begin c.in-Taskgroup.end known.0 c.self.invariant
    known.1).1 in
    search rules

pub only_span-requires-in-Taskgroup : goal.only_span-requires-in-Taskgroup
only_span-requires-in-Taskgroup c =
    rw c.in-Taskgroup.is
    at
    (waiting_within c.args.self.now.teams.run.records c.args.self.now.teams.run.family.tasks
    c.requires.0 c.args.wait.now c.requires.1)

pub returns-in-Taskwait : goal.returns-in-Taskwait
returns-in-Taskwait c =
    let known = rw (← c.self.view_is, c.in-Taskwait.is) at c.requires in
    let to =
    read_at c.self.inside.numbers.items c.in-Taskwait.begin c.index.result.now
    (wait_begin _ c.in-Taskwait.task c.in-Taskwait.begin known.0 c.self.invariant known.1)
    c.index.ensures in
    rw (← c.self.view_is, c.in-Taskwait.is)
    (if_ok-map
    (λ list each.
    λ end.
    wait_spans _ c.in-Taskwait.task c.in-Taskwait.begin c.index.result.now end list.items
    c.self.invariant to each)
    c.only_span.result (rw (← c.self.view_is) at c.only_span.ensures))

pub returns-in-Taskgroup : goal.returns-in-Taskgroup
returns-in-Taskgroup c =
    let known = rw (← c.self.view_is, c.in-Taskgroup.is) at c.requires in
    let inside =
    group_numbers _ c.in-Taskgroup.task c.in-Taskgroup.begin c.in-Taskgroup.end known.0 c.self.invariant
    known.1 in
    let from =
    read_at c.self.inside.numbers.items c.in-Taskgroup.begin c.index-from.result.now inside.0
    c.index-from.ensures in
    let to =
    read_at c.self.inside.numbers.items c.in-Taskgroup.end c.index-in-Taskgroup.result.now inside.1
    c.index-in-Taskgroup.ensures in
    rw (← c.self.view_is, c.in-Taskgroup.is)
    (if_ok-map
    (λ list each.
    λ end.
    group_spans _ c.in-Taskgroup.task c.in-Taskgroup.begin c.in-Taskgroup.end
    c.index-from.result.now c.index-in-Taskgroup.result.now end list.items
    c.self.invariant from to each)
    c.only_span-in-Taskgroup.result (rw (← c.self.view_is) at c.only_span-in-Taskgroup.ensures))

pub returns-in-Barrier : goal.returns-in-Barrier
returns-in-Barrier c =
    rw c.in-Barrier.is
    (if_ok-map
    (λ list each.
    λ end.
    barrier_spans c.args.self.now.teams.run.records c.args.self.now.teams.run.family.tasks
    c.in-Barrier.task c.in-Barrier.number end list.items each)
    c.member_spans.result c.member_spans.ensures)
