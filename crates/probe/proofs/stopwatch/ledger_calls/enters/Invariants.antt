use Rattle.std.proofs.Common.{◌≡◌}
use Rattle.probe.proofs.stopwatch.ledger_calls.enters.Given as goal

-- the seat stays at its ledger
abbrev pub invariant-entries : goal.invariant-entries
invariant-entries g l = l.seat.place.table_id ≡ l.ledger.board.shared.table_id
