use Rattle.std.proofs.Common.{◌≡◌}
use Rattle.probe.proofs.threads.own_turns.Given as goal

abbrev pub invariant-entries : goal.invariant-entries
invariant-entries g l = l.seat.place.table_id ≡ l.ledger.board.shared.table_id

abbrev pub invariant-looks : goal.invariant-looks
invariant-looks g l = l.seat.place.table_id ≡ l.ledger.board.shared.table_id
