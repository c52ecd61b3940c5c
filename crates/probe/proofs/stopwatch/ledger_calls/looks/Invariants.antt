use Rattle.std.proofs.Common.{◌≡◌}
use Rattle.probe.proofs.stopwatch.ledger_calls.looks.Given as goal

-- the seat stays at its ledger
abbrev pub invariant-looks : goal.invariant-looks
invariant-looks g l = l.seat.place.table_id ≡ l.ledger.board.shared.table_id
