use Rattle.task_tree.specs.Runs.{IsNoWaitEvent}
use Rattle.wait_coverage.proofs.WaitLemmas.{no_wait_there}
use Rattle.wait_coverage.proofs.waits.wait_at.Goals as goal

pub returns-in_err-event : goal.returns-in_err-event
returns-in_err-event c =
    let silent : IsNoWaitEvent c.args.teams.now.run c.args.at =
    rw c.run.ensures.value at c.in_err-event.ensures in
    rw c.from_residual.ensures (no_wait_there c.args.teams.now.run c.args.at silent)
