use Rattle.std.proofs.Common.{◌≡◌, ◌≤◌, ◌-◌}
use Rattle.credit_ledger.specs.Places.{ledger_id, seat_id, view_of}
use Rattle.scripts.specs.Parts.{AreOfLedger, views_of}
use Rattle.scripts.proofs.SeatLemmas.{AreSeatsOf}
use Rattle.scripts.proofs.seats.seats_of.Given as goal

-- the threads so far have their seats
abbrev pub invariant-loop-thread : goal.invariant-loop-thread
invariant-loop-thread l = record {
  from : 1 ≤ l.thread;
  to : l.thread ≤ 256;
  rest : seat_id l.rest ≡ ledger_id l.ledger;
  ledger : AreOfLedger (ledger_id l.ledger) l.seats.items;
  seats : AreSeatsOf l.threads (l.thread - 1) (views_of l.seats.items) (view_of l.rest);
}
