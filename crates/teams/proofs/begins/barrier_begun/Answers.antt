use Rattle.teams.proofs.EventLemmas.{no_event_begun}
use Rattle.teams.proofs.begins.barrier_begun.Goals as goal

pub returns-in_err-event : goal.returns-in_err-event
returns-in_err-event c =
    rw c.from_residual.ensures (no_event_begun c.args.run.now c.args.at c.in_err-event.ensures)
