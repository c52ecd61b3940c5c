use Rattle.std.proofs.Common.{◌≡◌}
use Rattle.credit_ledger.proofs.shared.await_turn.Given as goal

abbrev pub invariant-rounds : goal.invariant-rounds
invariant-rounds g l = record {
  can_next : (goal.iterator-rounds g).can_next l.iterator';
  is_finite : (goal.iterator-rounds g).is_finite l.iterator';
  table : l.place.table_id ≡ l.initial.place.table_id;
  me : l.place.me ≡ l.initial.place.me;
}
