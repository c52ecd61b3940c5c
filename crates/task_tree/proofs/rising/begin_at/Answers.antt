use Rattle.ompt_events.specs.Records.{begun_root}
use Rattle.ompt_events.specs.Places.{at}
use Rattle.ompt_events.specs.Causes.{is_root}
use Rattle.task_tree.proofs.SubjectLemmas.{call_task, call_none}
use Rattle.task_tree.proofs.RisingPassLemmas.{begin_found}
use Rattle.task_tree.proofs.rising.begin_at.Goals as goal

pub returns-in-Some : goal.returns-in-Some
returns-in-Some c =
    let own =
    call_task c.args.family.now.tasks (at begun_root c.args.trace.now.records c.args.at) c.root_at.result
    c.in-Some.index c.root_at.ensures c.in-Some.is in
    record { task = own.0; begins = is_root own.1; indexed = own.2 }

pub returns-in-None : goal.returns-in-None
returns-in-None c =
    let tasks = c.args.family.now.tasks in
    begin_found c.args.trace.now.records tasks c.args.at c.start_at.result
    (call_none tasks (at begun_root c.args.trace.now.records c.args.at) c.root_at.result c.root_at.ensures
    c.in-None.is)
    c.start_at.ensures
