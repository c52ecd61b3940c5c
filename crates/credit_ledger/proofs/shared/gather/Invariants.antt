use Rattle.std.proofs.Common.{◌≡◌, ◌++◌, [], All, length}
use Rattle.std.specs.Prelude.{map}
use Rattle.std.specs.List.{flat_map}
use Rattle.credit_ledger.specs.Places.{view_of}
use Rattle.credit_ledger.specs.Seats.{claims_of}
use Rattle.credit_ledger.specs.declared.view.Stage.TheVariants.{Turn}
use Rattle.credit_ledger.specs.declared.view.View.{View}
use Rattle.credit_ledger.proofs.shared.gather.Given as goal

abbrev pub decreases-seats : goal.decreases-seats
decreases-seats l = length l.seats.items

abbrev pub invariant-seats : goal.invariant-seats
invariant-seats l = record {
  table : l.place.table_id ≡ l.initial.place.table_id;
  stage : l.place.me.0.stage ≡ Turn;
  slots : l.place.me.1 ≡ l.initial.place.me.1;
  seen : l.place.me.0.seen ≡ l.initial.place.me.0.seen;
  own : l.place.me.0.own ≡ [];
  shares : flat_map (λ (v : View). v.shares) (map view_of l.seats.items) ++ l.place.me.0.shares
      ≡ flat_map (λ (v : View). v.shares) (map view_of l.initial.seats.items);
  claims : flat_map claims_of (map view_of l.seats.items) ++ l.place.me.0.claims
      ≡ flat_map claims_of (map view_of l.initial.seats.items);
  tables : All (λ seat. seat.place.table_id ≡ l.board.shared.table_id) l.seats.items;
}
