use Rattle.std.proofs.Common.{◌≡◌}
use Rattle.credit_ledger.proofs.shared.draw.Given as goal

abbrev pub invariant-tickets : goal.invariant-tickets
invariant-tickets g l = record {
  can_next : (goal.iterator-tickets g).can_next l.iterator';
  is_finite : (goal.iterator-tickets g).is_finite l.iterator';
  table : l.place.table_id ≡ l.initial.place.table_id;
  me : l.place.me ≡ l.initial.place.me;
}
