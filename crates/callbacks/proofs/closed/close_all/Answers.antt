use Rattle.std.proofs.Common.{List, subst, sym}
use Rattle.std.specs.Prelude.{map}
use Rattle.std.specs.List.Sorted.{IsPermutation}
use Rattle.std.proofs.lemmas.List.Sorted.{IsPermutation-map}
use Rattle.credit_ledger.specs.declared.shared.Seat.{Seat}
use Rattle.credit_ledger.specs.declared.view.Step.{Step}
use Rattle.credit_ledger.specs.Places.{ledger_id, view_of}
use Rattle.credit_ledger.specs.Seats.{AreClaims, AreSeatsApart, HasCallsOf}
use Rattle.callbacks.specs.Buffers.{BufferView}
use Rattle.callbacks.specs.Recorders.{RecorderView}
use Rattle.callbacks.specs.Closed.{AreParts, thread_of}
use Rattle.callbacks.proofs.MadeLemmas.{all-made}
use Rattle.callbacks.proofs.ClosedLemmas.{parts-claims, parts-seen, parts-threads, parts-seats}
use Rattle.callbacks.proofs.ClosedLemmas.{parts-backed, parts-closed}
use Rattle.callbacks.proofs.closed.close_all.Goals as goal

pub close-ledger-requires : goal.close-ledger-requires
close-ledger-requires g c = record {
  seats =
      let parts = c.take_apart-seats.result in
      parts-seats (ledger_id c.args.ledger) c.args.recorders.items parts.0.items parts.1.items
      c.take_apart-seats.ensures c.requires;
}

pub invariant_of-result : goal.invariant_of-result
invariant_of-result g c =
    let h = c.close-ledger.ensures in
    let parts = c.take_apart-seats.result in
    let same = parts-claims c.args.recorders.items parts.0.items parts.1.items c.take_apart-seats.ensures in
    let sorted = c.by_thread-buffers in
    parts-closed h.0 c.args.recorders.items parts.0.items parts.1.items sorted.result.items
    c.close-ledger.result c.take_apart-seats.ensures
    (subst (AreClaims h.0) same h.3) h.2 sorted.ensures.permutation sorted.ensures.sorted

-- the seats are those of the recorders
theirs : (recorders : List RecorderView) (seats : List Seat) (buffers : List BufferView) (h : List Step)
    → AreParts recorders seats buffers → HasCallsOf h (map view_of seats)
    → HasCallsOf h (map (λ (r : RecorderView). r.seat) recorders)
theirs recorders seats buffers h are calls =
    subst (HasCallsOf h) (parts-seen recorders seats buffers are) calls

pub returns-clause-closed : goal.returns-clause-closed
returns-clause-closed g c =
    let h = c.close-ledger.ensures in
    let parts = c.take_apart-seats.result in
    let same = parts-claims c.args.recorders.items parts.0.items parts.1.items c.take_apart-seats.ensures in (
      h.0,
      h.1,
      h.2,
      subst (AreClaims h.0) same h.3,
      subst AreSeatsApart same h.4,
      theirs c.args.recorders.items parts.0.items parts.1.items h.0 c.take_apart-seats.ensures h.5,
    )

pub returns-clause-backed : goal.returns-clause-backed
returns-clause-backed g c =
    let parts = c.take_apart-seats.result in
    parts-backed c.args.recorders.items parts.0.items parts.1.items c.take_apart-seats.ensures

pub returns-clause-made : goal.returns-clause-made
returns-clause-made g c =
    let h = c.close-ledger.ensures in
    let parts = c.take_apart-seats.result in
    let sorted = c.by_thread-buffers in λ unused all.
    all-made h.0 c.args.recorders.items parts.0.items parts.1.items sorted.result.items c.close-ledger.result
    c.take_apart-seats.ensures unused
    (theirs c.args.recorders.items parts.0.items parts.1.items h.0 c.take_apart-seats.ensures h.5) all h.2
    sorted.ensures.permutation

pub returns-clause-buffers : goal.returns-clause-buffers
returns-clause-buffers g c =
    let parts = c.take_apart-seats.result in
    let sorted = c.by_thread-buffers in
    subst (λ l. IsPermutation l (map thread_of sorted.result.items))
    (sym (parts-threads c.args.recorders.items parts.0.items parts.1.items c.take_apart-seats.ensures))
    (IsPermutation-map thread_of parts.1.items sorted.result.items sorted.ensures.permutation)

pub returns-clause-are_closed : goal.returns-clause-are_closed
returns-clause-are_closed g c = invariant_of-result g c
