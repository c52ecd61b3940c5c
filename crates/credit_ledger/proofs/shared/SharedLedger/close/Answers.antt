use Rattle.std.proofs.Common.{◌≡◌, ◌∙◌, List, [], ◌∷◌, refl, ap, subst, arith}
use Rattle.std.specs.Prelude.{map}
use Rattle.credit_ledger.specs.declared.shared.Seat.{Seat}
use Rattle.credit_ledger.specs.Histories.{entries_after}
use Rattle.credit_ledger.specs.Places.{view_of}
use Rattle.credit_ledger.specs.Seats.{claim_of, AreClaims, AreSeatsApart}
use Rattle.credit_ledger.proofs.RightLemmas.{claims-first, apart-first}
use Rattle.credit_ledger.proofs.SeatLemmas.{sits}
use Rattle.credit_ledger.proofs.shared.SharedLedger.close.Goals as goal

pub load_new_seat-place-requires : goal.load_new_seat-place-requires
load_new_seat-place-requires g c =
    (omega (arith, c.args.self.counts.0), sits c.args.self.board.shared.table_id.slots)

same-claims : (seats : List Seat) → map claim_of (map view_of seats) ≡ map (λ s. claim_of (view_of s)) seats
same-claims [] = refl
same-claims (s ∷ seats) = ap (λ l. claim_of (view_of s) ∷ l) (same-claims seats)

pub returns : goal.returns
returns g c =
    let history = c.await_turn.new.place.me.0.seen in
    let views = map view_of c.args.seats.items in
    let all = c.gather.ensures.calls in
    let same = same-claims c.args.seats.items in (
      history,
      c.await_turn.ensures.turn.legal,
      c.take.ensures ∙ ap entries_after c.gather.ensures.seen,
      subst (AreClaims history) same (claims-first history views all.claims),
      subst AreSeatsApart same (apart-first views all.apart),
      all,
    )
