use Rattle.std.proofs.Common.{◌≡◌}
use Rattle.probe.proofs.stopwatch.recorder_calls.regions.Given as goal

-- the recorder stays at its ledger
abbrev pub invariant-regions : goal.invariant-regions
invariant-regions g l = l.recorder.ledger ≡ l.initial.recorder.ledger
