use Rattle.std.proofs.Common.{◌≡◌}
use Rattle.probe.proofs.stopwatch.recorder_calls.switches.Given as goal

-- the recorder stays at its ledger
abbrev pub invariant-switches : goal.invariant-switches
invariant-switches g l = l.recorder.ledger ≡ l.initial.recorder.ledger
