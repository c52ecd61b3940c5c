use Rattle.std.proofs.Common.{rules, ◌≡◌, ◌∙◌, ◌++◌, [], sym, ap, subst, arith}
use Rattle.std.specs.Prelude.{map}
use Rattle.std.specs.List.{flat_map}
use Rattle.credit_ledger.specs.declared.view.View.{View}
use Rattle.credit_ledger.specs.Places.{view_of}
use Rattle.credit_ledger.specs.Seats.{claims_of, AreClaims, AreSeatsApart, AreAll, AreEntersOf, HasCallsOf}
use Rattle.credit_ledger.proofs.SeatLemmas.{gathers, told_claims}
use Rattle.credit_ledger.proofs.shared.gather.Goals as goal

pub join_seat-requires : goal.join_seat-requires
join_seat-requires c = (
  c.seats.invariant.table ∙ c.requires.place,
  search rules,
  c.in-Some.seat.empty,
  omega (arith, c.requires.board.0),
  gathers c.seats.place.id c.in-Some.seat.place.id c.seats.place.me.0 c.in-Some.seat.place.me.0
      c.seats.invariant.stage c.in-Some.seat.stage,
)

pub load-requires : goal.load-requires
load-requires c = (
  c.seats.invariant.table ∙ c.requires.place,
  omega (arith, c.requires.board.0),
  told_claims c.args.board.now.shared.table_id.slots c.seats.place.id c.seats.place.me
      c.seats.invariant.stage,
)

pub returns-clause-calls : goal.returns-clause-calls
returns-clause-calls c =
    let views = map view_of c.args.seats.items in
    let told = c.load.ensures.2 in
    let same = c.seats.invariant in
    let empty : c.seats.seats.items ≡ [] = search rules in
    let shares : c.seats.place.me.0.shares ≡ flat_map (λ (v : View). v.shares) views =
    ap (λ l. flat_map (λ (v : View). v.shares) (map view_of l) ++ c.seats.place.me.0.shares) (sym empty)
    ∙ same.shares in
    let claims : c.seats.place.me.0.claims ≡ flat_map claims_of views =
    ap (λ l. flat_map claims_of (map view_of l) ++ c.seats.place.me.0.claims) (sym empty) ∙ same.claims in
    subst (λ h. HasCallsOf h views) same.seen (record {
      claims = subst (AreClaims c.seats.place.me.0.seen) claims told.claims;
      apart = subst AreSeatsApart claims told.apart;
      enters = λ all.
          subst (λ cs. AreEntersOf cs c.seats.place.me.0.seen) claims
          (told.enters (subst AreAll (sym shares) all) same.own);
    })
