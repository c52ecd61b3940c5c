use Rattle.std.proofs.lemmas.Result.{IfOk-weaker}
use Rattle.ompt_events.specs.declared.names.Endpoint.TheVariants.{Begin}
use Rattle.online.proofs.WaitStepLemmas.{with_endpoint, barrier_begins, barrier_ends}
use Rattle.online.proofs.waits.Waits.take_barrier.Goals as goal

pub returns-in-Begin-clause-taken : goal.returns-in-Begin-clause-taken
returns-in-Begin-clause-taken c = λ yes r kind barrier is.
    barrier_begins c.args.task c.args.seen kind r c.args.self.now c.step_barrier.new.self
    (with_endpoint c.args.task c.args.seen kind c.args.endpoint Begin r is c.in-Begin.is)
    (c.in_ok-step_barrier.ensures.steps r kind barrier is.says)

pub returns-in-End-clause-taken : goal.returns-in-End-clause-taken
returns-in-End-clause-taken c =
    IfOk-weaker c.end_barrier.result _ _
    (λ taken over yes r kind barrier is.
    barrier_ends c.args.task c.args.seen kind c.args.endpoint r c.args.self.now c.step_barrier.new.self
    c.end_barrier.new.self barrier is (c.in_ok-step_barrier.ensures.steps r kind barrier is.says)
    c.end_barrier.ensures.tasks (over yes))
    c.end_barrier.ensures.ends
