use Rattle.std.proofs.Common.{◌≡◌}
use Rattle.probe.proofs.stopwatch.recorder_calls.finishes.Given as goal

-- the recorder stays at its ledger
abbrev pub invariant-tasks : goal.invariant-tasks
invariant-tasks g l = l.recorder.ledger ≡ l.initial.recorder.ledger
