use Rattle.ompt_events.specs.declared.names.SyncKind.TheVariants.{Taskwait}
use Rattle.ompt_events.specs.declared.names.Endpoint.TheVariants.{Begin}
use Rattle.online.proofs.WaitStepLemmas.{with_endpoint, taskwait_begins, taskwait_ends}
use Rattle.online.proofs.waits.Waits.take_taskwait.Goals as goal

pub returns-in-Begin : goal.returns-in-Begin
returns-in-Begin c = λ yes r is.
    taskwait_begins c.args.task c.args.seen r c.args.self.now
    (with_endpoint c.args.task c.args.seen Taskwait c.args.endpoint Begin r is c.in-Begin.is)

pub returns-in-End : goal.returns-in-End
returns-in-End c = λ over r is.
    taskwait_ends c.args.task c.args.seen c.args.endpoint r c.args.self.now is
    (c.is_taskwait_over.ensures over)
