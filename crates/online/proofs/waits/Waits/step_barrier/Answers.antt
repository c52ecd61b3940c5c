use Rattle.online.proofs.WaitStepLemmas.{quiet_barrier}
use Rattle.online.proofs.waits.Waits.step_barrier.Goals as goal

pub returns-in-End-clause-steps : goal.returns-in-End-clause-steps
returns-in-End-clause-steps c = λ r kind barrier says.
    quiet_barrier c.args.task kind c.args.endpoint r c.args.self.now says barrier c.in-End.is
