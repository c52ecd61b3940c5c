use Rattle.std.proofs.Common.{arith}
use Rattle.wait_coverage.proofs.WaitLemmas.{taskwait_there, taskgroup_there, barrier_there, begins_within}
use Rattle.wait_coverage.proofs.waits.wait_of.Goals as goal

pub number-requires : goal.number-requires
number-requires c =
    let event = c.args.event in
    let inside =
    begins_within c.args.teams.now.run c.args.end event.task c.args.begin event.kind event.endpoint
    c.requires.event c.requires.begin in
    let all = c.run-run.ensures.is_teams.numbers.all in
    omega (arith, inside, all)

pub returns-in-Taskwait : goal.returns-in-Taskwait
returns-in-Taskwait c =
    let event = c.args.event in
    taskwait_there c.args.teams.now.run c.args.end event.task c.args.begin event.kind event.endpoint
    c.in-Taskwait.is c.requires.event c.requires.begin

pub returns-in-Taskgroup : goal.returns-in-Taskgroup
returns-in-Taskgroup c =
    let event = c.args.event in
    taskgroup_there c.args.teams.now.run c.args.end event.task c.args.begin event.kind event.endpoint
    c.in-Taskgroup.is c.requires.event c.requires.begin

pub returns-in-Barrier : goal.returns-in-Barrier
returns-in-Barrier c =
    let event = c.args.event in
    barrier_there c.args.teams.now.run c.args.teams.now.numbers c.args.end event.task c.args.begin
    c.number.result event.kind event.endpoint c.in-Barrier.is c.requires.event c.requires.begin
    c.run-run.ensures.is_teams.numbers c.number.ensures
