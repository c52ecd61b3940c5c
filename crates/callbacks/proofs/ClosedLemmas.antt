-- Recorders that are taken apart, and their buffers after the ledger was closed.
use Rattle.std.proofs.Common.{◌≡◌, ◌∙◌, ◌≤◌, List, [], ◌∷◌, length, All, refl, sym, ap, subst, arith}
use Rattle.std.specs.Prelude.{map}
use Rattle.std.specs.List.{AllByRecursion}
use Rattle.std.specs.List.Sorted.{IsPermutation, IsNonDecreasingBy}
use Rattle.std.proofs.lemmas.List.Elements.{All-from_recursion, recursion_from_All}
use Rattle.std.proofs.lemmas.List.Sorted.{All-permutation}
use Rattle.atomic_table.specs.Seated.{TableId}
use Rattle.ompt_events.specs.Limits.{max_records}
use Rattle.credit_ledger.specs.declared.entry.Entry.{Entry}
use Rattle.credit_ledger.specs.declared.shared.Seat.{Seat}
use Rattle.credit_ledger.specs.declared.view.Step.{Step}
use Rattle.credit_ledger.specs.Histories.{entries_after}
use Rattle.credit_ledger.specs.Places.{seat_id, view_of}
use Rattle.credit_ledger.specs.Seats.{AreClaims, claim_of}
use Rattle.credit_ledger.proofs.ExtendsLemmas.{GoOn, starts-go_on}
use Rattle.callbacks.specs.Buffers.{BufferView}
use Rattle.callbacks.specs.Logs.{AreOrderly, known_of}
use Rattle.callbacks.specs.Recorders.{RecorderView, HaveEntries, IsBacked}
use Rattle.callbacks.specs.Closed.{thread_of, recorded_by, IsBuffer, AreClosed, IsPart, AreParts}

pub parts-claims : (recorders : List RecorderView) (seats : List Seat) (buffers : List BufferView)
    → AreParts recorders seats buffers
    → map (λ (s : Seat). claim_of (view_of s)) seats ≡ map (λ (r : RecorderView). claim_of r.seat) recorders
parts-claims [] [] [] are = refl
parts-claims (r ∷ recorders) (s ∷ seats) (b ∷ buffers) are =
    ap (λ v. claim_of v ∷ map (λ (t : Seat). claim_of (view_of t)) seats) are.0.seat_is
    ∙ ap (λ l. claim_of r.seat ∷ l) (parts-claims recorders seats buffers are.1)
parts-claims [] [] (b ∷ buffers) are = absurd are
parts-claims [] (s ∷ seats) buffers are = absurd are
parts-claims (r ∷ recorders) [] buffers are = absurd are
parts-claims (r ∷ recorders) (s ∷ seats) [] are = absurd are

pub parts-seen : (recorders : List RecorderView) (seats : List Seat) (buffers : List BufferView)
    → AreParts recorders seats buffers → map view_of seats ≡ map (λ (r : RecorderView). r.seat) recorders
parts-seen [] [] [] are = refl
parts-seen (r ∷ recorders) (s ∷ seats) (b ∷ buffers) are =
    ap (λ v. v ∷ map view_of seats) are.0.seat_is
    ∙ ap (λ l. r.seat ∷ l) (parts-seen recorders seats buffers are.1)
parts-seen [] [] (b ∷ buffers) are = absurd are
parts-seen [] (s ∷ seats) buffers are = absurd are
parts-seen (r ∷ recorders) [] buffers are = absurd are
parts-seen (r ∷ recorders) (s ∷ seats) [] are = absurd are

pub parts-threads : (recorders : List RecorderView) (seats : List Seat) (buffers : List BufferView)
    → AreParts recorders seats buffers
    → map recorded_by recorders ≡ map thread_of buffers
parts-threads [] [] [] are = refl
parts-threads (r ∷ recorders) (s ∷ seats) (b ∷ buffers) are =
    ap (λ t. (t, r.records) ∷ map recorded_by recorders) (sym are.0.thread_is)
    ∙ ap (λ rs. (b.thread, rs) ∷ map recorded_by recorders) (sym are.0.records_are)
    ∙ ap (λ l. thread_of b ∷ l) (parts-threads recorders seats buffers are.1)
parts-threads [] [] (b ∷ buffers) are = absurd are
parts-threads [] (s ∷ seats) buffers are = absurd are
parts-threads (r ∷ recorders) [] buffers are = absurd are
parts-threads (r ∷ recorders) (s ∷ seats) [] are = absurd are

seats-of : (id : TableId) (recorders : List RecorderView) (seats : List Seat) (buffers : List BufferView)
    → AreParts recorders seats buffers → AllByRecursion (λ (r : RecorderView). r.ledger ≡ id) recorders
    → AllByRecursion (λ (s : Seat). seat_id s ≡ id) seats
seats-of id [] [] [] are all = all
seats-of id (r ∷ recorders) (s ∷ seats) (b ∷ buffers) are all =
    (are.0.ledger ∙ all.0, seats-of id recorders seats buffers are.1 all.1)
seats-of id [] [] (b ∷ buffers) are all = absurd are
seats-of id [] (s ∷ seats) buffers are all = absurd are
seats-of id (r ∷ recorders) [] buffers are all = absurd are
seats-of id (r ∷ recorders) (s ∷ seats) [] are all = absurd are

pub parts-seats : (id : TableId) (recorders : List RecorderView) (seats : List Seat)
    (buffers : List BufferView) → AreParts recorders seats buffers
    → All (λ (r : RecorderView). r.ledger ≡ id) recorders → All (λ (s : Seat). seat_id s ≡ id) seats
parts-seats id recorders seats buffers are all =
    All-from_recursion (λ (s : Seat). seat_id s ≡ id) seats
    (seats-of id recorders seats buffers are
    (recursion_from_All (λ (r : RecorderView). r.ledger ≡ id) recorders all))

backed-of : (recorders : List RecorderView) (seats : List Seat) (buffers : List BufferView)
    → AreParts recorders seats buffers
    → AllByRecursion (λ (r : RecorderView). IsBacked r.before r.records r.known r.seat) recorders
backed-of [] [] [] are = are
backed-of (r ∷ recorders) (s ∷ seats) (b ∷ buffers) are =
    (are.0.backed, backed-of recorders seats buffers are.1)
backed-of [] [] (b ∷ buffers) are = absurd are
backed-of [] (s ∷ seats) buffers are = absurd are
backed-of (r ∷ recorders) [] buffers are = absurd are
backed-of (r ∷ recorders) (s ∷ seats) [] are = absurd are

pub parts-backed : (recorders : List RecorderView) (seats : List Seat) (buffers : List BufferView)
    → AreParts recorders seats buffers
    → All (λ (r : RecorderView). IsBacked r.before r.records r.known r.seat) recorders
parts-backed recorders seats buffers are =
    All-from_recursion (λ (r : RecorderView). IsBacked r.before r.records r.known r.seat) recorders
    (backed-of recorders seats buffers are)

-- a buffer whose seat's history is part of the ledger's
part-buffer : (r : RecorderView) (s : Seat) (b : BufferView) (entries : List Entry) → IsPart r s b
    → GoOn (entries_after r.seat.seen) entries → IsBuffer entries b
part-buffer r s b entries part on = record {
  few = subst (λ l. length l ≤ max_records) (sym part.records_are) part.recorded.few;
  orderly =
      subst (λ t. AreOrderly t b.records) (sym part.thread_is)
      (subst (AreOrderly r.thread) (sym part.records_are) part.recorded.orderly);
  known = subst (λ l. known_of l ≤ length entries) (sym part.records_are)
      (omega (arith, part.recorded.known_rises, part.backed.seen, on.length_kept));
  entered = subst (λ l. HaveEntries l entries) (sym part.records_are)
      (λ i q e is makes. on.kept q.seen e (part.backed.entered i q e is makes));
}

buffers-of : (history : List Step) (recorders : List RecorderView) (seats : List Seat)
    (buffers : List BufferView) → AreParts recorders seats buffers
    → AreClaims history (map (λ (r : RecorderView). claim_of r.seat) recorders)
    → AllByRecursion (IsBuffer (entries_after history)) buffers
buffers-of history [] [] [] are claims = claims
buffers-of history (r ∷ recorders) (s ∷ seats) (b ∷ buffers) are claims = (
  part-buffer r s b (entries_after history) are.0 (starts-go_on history r.seat.seen claims.0.0),
  buffers-of history recorders seats buffers are.1 claims.1,
)
buffers-of history [] [] (b ∷ buffers) are claims = absurd are
buffers-of history [] (s ∷ seats) buffers are claims = absurd are
buffers-of history (r ∷ recorders) [] buffers are claims = absurd are
buffers-of history (r ∷ recorders) (s ∷ seats) [] are claims = absurd are

-- the buffers in the order of their threads
pub parts-closed : (history : List Step) (recorders : List RecorderView) (seats : List Seat)
    (buffers sorted : List BufferView) (entries : List Entry) → AreParts recorders seats buffers
    → AreClaims history (map (λ (r : RecorderView). claim_of r.seat) recorders)
    → entries ≡ entries_after history → IsPermutation buffers sorted
    → IsNonDecreasingBy (λ (b : BufferView). b.thread) sorted
    → AreClosed (record { entries = entries; buffers = sorted })
parts-closed history recorders seats buffers sorted entries are claims is permuted rising = record {
  buffers = All-permutation (IsBuffer entries) buffers sorted permuted
      (subst (λ es. All (IsBuffer es) buffers) (sym is)
      (All-from_recursion (IsBuffer (entries_after history)) buffers
      (buffers-of history recorders seats buffers are claims)));
  sorted = rising;
}
