use Rattle.std.proofs.Common.{◌<◌, length, arith}
use Rattle.std.proofs.lemmas.Option.{slice_get_within}
use Rattle.ompt_events.specs.Places.{at}
use Rattle.task_tree.proofs.SubjectLemmas.{call_task}
use Rattle.teams.proofs.CallLemmas.{read_at}
use Rattle.checker.specs.Schedule.{first_started}
use Rattle.checker.proofs.BackLemmas.{again_is, started_more}
use Rattle.checker.proofs.lengths.starts_again.Goals as goal

pub returns-clause-again : goal.returns-clause-again
returns-clause-again c =
    let run = c.args.run.now in
    let marks = c.args.started.now.items in
    let called =
    call_task run.family.tasks (at first_started run.records c.args.at) c.first_started.result c.in-Some.index
    c.first_started.ensures c.in-Some.is in
    let inside = slice_get_within run.family.tasks c.in-Some.index called.0 called.2 in
    let all = c.requires.started.all in
    let within : c.in-Some.index < length marks = omega (arith, inside, all) in
    again_is run.records c.args.at c.in-Some.index called.0 run.family.tasks marks c.index-again.result.now
    called.2 called.1 (read_at marks c.in-Some.index c.index-again.result.now within c.index-again.ensures)
    c.requires.started

pub returns-clause-started : goal.returns-clause-started
returns-clause-started c =
    let run = c.args.run.now in
    let called =
    call_task run.family.tasks (at first_started run.records c.args.at) c.first_started.result c.in-Some.index
    c.first_started.ensures c.in-Some.is in
    started_more run.records c.args.at c.in-Some.index called.0 run.family.tasks c.args.started.now.items
    c.task_count-tasks.ensures.is_run.family.makers.apart called.2 called.1 c.requires.started
