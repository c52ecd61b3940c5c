use Rattle.ompt_events.specs.declared.names.SyncKind.TheVariants.{Taskgroup}
use Rattle.ompt_events.specs.declared.names.Endpoint.TheVariants.{Begin, End, BeginEnd}
use Rattle.online.proofs.WaitStepLemmas.{with_endpoint, taskgroup_begins, taskgroup_ends, taskgroup_at_once}
use Rattle.online.proofs.waits.Waits.take_taskgroup.Goals as goal

pub returns-in_ok-begin_taskgroup-in-Begin-clause-taken :
    goal.returns-in_ok-begin_taskgroup-in-Begin-clause-taken
returns-in_ok-begin_taskgroup-in-Begin-clause-taken c = λ yes r is.
    taskgroup_begins c.args.task c.args.seen r c.args.self.now c.begin_taskgroup.new.self
    (with_endpoint c.args.task c.args.seen Taskgroup c.args.endpoint Begin r is c.in-Begin.is)
    c.in_ok-begin_taskgroup-in-Begin.ensures.tasks c.in_ok-begin_taskgroup-in-Begin.ensures.teams

pub returns-in-End-clause-taken : goal.returns-in-End-clause-taken
returns-in-End-clause-taken c = λ over r is.
    let told = c.end_taskgroup.ensures in
    taskgroup_ends c.args.task c.args.seen r c.args.self.now c.end_taskgroup.new.self
    (with_endpoint c.args.task c.args.seen Taskgroup c.args.endpoint End r is c.in-End.is)
    (told.tasks over) (told.teams over) (told.complete over)

pub returns-in-BeginEnd-clause-taken : goal.returns-in-BeginEnd-clause-taken
returns-in-BeginEnd-clause-taken c = λ yes r is.
    taskgroup_at_once c.args.task c.args.seen r c.args.self.now
    (with_endpoint c.args.task c.args.seen Taskgroup c.args.endpoint BeginEnd r is c.in-BeginEnd.is)

pub returns-in-End-clause-refused : goal.returns-in-End-clause-refused
returns-in-End-clause-refused c = c.end_taskgroup.ensures.refused
