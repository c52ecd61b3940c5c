use Rattle.std.proofs.Common.{◌≡◌, ◌≢◌, ◌∙◌, Some, ap, arith, rules}
use Rattle.std.proofs.lemmas.Option.{slice_get_within}
use Rattle.ompt_events.specs.declared.names.Endpoint.TheVariants.{End}
use Rattle.ompt_events.specs.declared.names.SyncKind.TheVariants.{Taskwait}
use Rattle.teams.proofs.CallLemmas.{read_at}
use Rattle.teams.proofs.EventLemmas.{barrier_kind}
use Rattle.wait_coverage.specs.Done.{tasks_of}
use Rattle.wait_coverage.proofs.KindLemmas.{taskwait_says, taskgroup_says}
use Rattle.wait_coverage.proofs.LimitLemmas.{ended_mark, begun_mark, group_mark, barrier_mark}
use Rattle.wait_coverage.proofs.limits.limit_at.Goals as goal

pub limit_of_begin-requires-clause-ends : goal.limit_of_begin-requires-clause-ends
limit_of_begin-requires-clause-ends c =
    let event = c.requires.event in
    let says =
    taskwait_says c.args.done.now.teams.run c.args.at c.args.event.task c.args.event.kind
    c.args.event.endpoint event c.in-Taskwait.is in
    let ends : c.args.event.endpoint ≡ End = search rules in
    (event.task, says ∙ ap (λ e. Some (event.task, Taskwait, e)) ends)

pub returns-then-eq : goal.returns-then-eq
returns-then-eq c = λ other.
    let event = c.requires.event in
    let says =
    taskwait_says c.args.done.now.teams.run c.args.at c.args.event.task c.args.event.kind
    c.args.event.endpoint event c.in-Taskwait.is in
    let ends : c.args.event.endpoint ≡ End = search rules in
    ended_mark c.args.done.now c.args.at event.task c.limit_of_begin.result c.args.nodes.now
    c.requires.noted.marks (says ∙ ap (λ e. Some (event.task, Taskwait, e)) ends) c.limit_of_begin.ensures

pub returns-else-eq : goal.returns-else-eq
returns-else-eq c = λ other.
    let event = c.requires.event in
    let own = c.args.event.task in
    let latest = c.requires.noted.latest in
    let says =
    taskwait_says c.args.done.now.teams.run c.args.at c.args.event.task c.args.event.kind
    c.args.event.endpoint event c.in-Taskwait.is in
    let apart : c.args.event.endpoint ≢ End = search rules in
    let inside = slice_get_within (tasks_of c.args.done.now) own event.task event.indexed in
    let all = latest.all in
    let stands =
    read_at c.args.progress.now.latest.items own c.index.result.now (omega (arith, inside, all))
    c.index.ensures in
    begun_mark c.args.done.now c.args.at event.task c.index.result.now c.args.event.endpoint says apart
    (latest.each own event.task c.index.result.now event.indexed stands)
    (latest.least own event.task c.index.result.now event.indexed stands)

pub returns-in-Taskgroup : goal.returns-in-Taskgroup
returns-in-Taskgroup c = λ other.
    let event = c.requires.event in
    let says =
    taskgroup_says c.args.done.now.teams.run c.args.at c.args.event.task c.args.event.kind
    c.args.event.endpoint event c.in-Taskgroup.is in
    group_mark c.args.done.now c.args.at event.task c.zero.result c.args.event.endpoint says
    (other c.in-Taskgroup.is) c.zero.ensures

pub returns-in-Barrier : goal.returns-in-Barrier
returns-in-Barrier c = λ other.
    let event = c.requires.event in
    let own = c.args.event.task in
    let families = c.requires.noted.families in
    let inside = slice_get_within (tasks_of c.args.done.now) own event.task event.indexed in
    let all = families.all in
    let stands =
    read_at c.args.progress.now.families.items own c.index-in-Barrier.result.now
    (omega (arith, inside, all)) c.index-in-Barrier.ensures in
    barrier_mark c.args.done.now c.args.at event.task c.index-in-Barrier.result.now event.sync
    c.args.event.endpoint event.says (barrier_kind event.sync (event.waits ∙ ap Some c.in-Barrier.is))
    (families.each own event.task c.index-in-Barrier.result.now event.indexed stands)
    (families.least own event.task c.index-in-Barrier.result.now event.indexed stands)
