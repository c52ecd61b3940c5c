-- The history of the ledger that the threads of a run share.
use Rattle.std.proofs.Common.{ℕ, zero, suc, ◌≡◌, ◌≢◌, ◌∙◌, ◌<◌, ◌↔◌, ◌++◌, List, [], ◌∷◌, Some, All}
use Rattle.std.proofs.Common.{map, refl, sym, ap, subst, arith, inl, inr}
use Rattle.std.specs.Prelude.{Contains, IsTrue, slice_get}
use Rattle.std.specs.List.{flat_map}
use Rattle.std.proofs.lemmas.Bool.{cases_order}
use Rattle.std.proofs.lemmas.List.Elements.{recursion_from_All}
use Rattle.std.proofs.lemmas.List.Folds.{flat_map-map}
use Rattle.std.proofs.lemmas.Option.{none-some, same_Some}
use Rattle.ompt_events.proofs.ListLemmas.{get_contains, contains_get, all_get}
use Rattle.credit_ledger.specs.declared.view.Step.{Step}
use Rattle.credit_ledger.specs.declared.view.View.{View}
use Rattle.credit_ledger.specs.Histories.{IsLegal}
use Rattle.credit_ledger.specs.Seats.{AreAll, AreClaims, AreEntersOf, AreOfOthers, AreSeatsApart, HasCallsOf}
use Rattle.credit_ledger.specs.Seats.{IsClaimed, claim_of, claims_of, is_enter, seat_calls}
use Rattle.callbacks.specs.Recorders.{RecorderView, IsBacked, IsWithLooks, ledger_calls}
use Rattle.callbacks.proofs.MadeLemmas.{claims-alone}
use Rattle.callbacks.specs.Closed.{ClosedView, AreClosed, HasUnusedSeat}
use Rattle.callbacks.specs.Gathered.{gathered, HaveOwnThreads}
use Rattle.scripts.specs.Parts.{shares_of}
use Rattle.scripts.specs.Progress.{thread_records}
use Rattle.scripts.specs.Runs.{IsHistoryOf, Seated}
use Rattle.scripts.proofs.CloseLemmas.{AreApart, AreOf, threads_differ}
use Rattle.scripts.proofs.GatherLemmas.{mapped_from, mapped_to, recorder_records, record_thread}

-- ---- what the history has of each seat

abbrev AreClaimed : List RecorderView → List Step → Type 0
AreClaimed recorders history = AreClaims history (map (λ (r : RecorderView). claim_of r.seat) recorders)

abbrev HaveOwnSeats : List RecorderView → Type 0
HaveOwnSeats recorders = AreSeatsApart (map (λ (r : RecorderView). claim_of r.seat) recorders)

claimed_at : (history : List Step) (recorders : List RecorderView) (k : ℕ) (r : RecorderView)
    → AreClaimed recorders history → slice_get recorders k ≡ Some r
    → seat_calls r.seat.number history ≡ r.seat.own
claimed_at history [] k r claims is = absurd (none-some r is)
claimed_at history (q ∷ recorders) zero r claims is =
    subst (λ (x : RecorderView). seat_calls x.seat.number history ≡ x.seat.own) (same_Some q r is) claims.0.1
claimed_at history (q ∷ recorders) (suc k) r claims is = claimed_at history recorders k r claims.1 is

other_at : (n : ℕ) (recorders : List RecorderView) (k : ℕ) (r : RecorderView)
    → AreOfOthers n (map (λ (q : RecorderView). claim_of q.seat) recorders) → slice_get recorders k ≡ Some r
    → r.seat.number ≢ n
other_at n [] k r others is = absurd (none-some r is)
other_at n (q ∷ recorders) zero r others is =
    subst (λ (x : RecorderView). x.seat.number ≢ n) (same_Some q r is) others.0
other_at n (q ∷ recorders) (suc k) r others is = other_at n recorders k r others.1 is

seats_differ : (recorders : List RecorderView) (i j : ℕ) (q r : RecorderView) → HaveOwnSeats recorders
    → i < j → slice_get recorders i ≡ Some q → slice_get recorders j ≡ Some r
    → q.seat.number ≢ r.seat.number
seats_differ [] i j q r apart below first second = absurd (none-some q first)
seats_differ (x ∷ recorders) i zero q r apart below first second = absurd (omega (arith, below))
seats_differ (x ∷ recorders) zero (suc j) q r apart below first second = λ same.
    other_at x.seat.number recorders j r apart.0 second
    (sym same ∙ ap (λ (y : RecorderView). y.seat.number) (sym (same_Some x q first)))
seats_differ (x ∷ recorders) (suc i) (suc j) q r apart below first second =
    seats_differ recorders i j q r apart.1 (omega (arith, below)) first second

claimed_by : (n : ℕ) (recorders : List RecorderView)
    → IsClaimed n (map (λ (r : RecorderView). claim_of r.seat) recorders)
    → (k : ℕ) × (r : RecorderView) × (slice_get recorders k ≡ Some r) × (r.seat.number ≡ n)
claimed_by n [] claimed = absurd claimed
claimed_by n (r ∷ recorders) (inl is) = (0, r, refl, is)
claimed_by n (r ∷ recorders) (inr later) =
    let (k, q, stands, is) = claimed_by n recorders later in (suc k, q, stands, is)

-- if the call enters anything, it is of the seat of one of these
abbrev IsEnterOf : List RecorderView → Step → Type 0
IsEnterOf recorders call =
    IsTrue (is_enter call.call) → IsClaimed call.seat (map (λ (r : RecorderView). claim_of r.seat) recorders)

-- ---- the seats of the threads

abbrev seated : RecorderView → Seated
seated r = record { thread = r.thread; seat = r.seat.number }

-- a thread has one seat, and no two threads have the same
own_seats : (recorders : List RecorderView) (i j : ℕ) (q r : RecorderView) → AreApart recorders
    → HaveOwnSeats recorders → slice_get recorders i ≡ Some q → slice_get recorders j ≡ Some r
    → (q.thread ≡ r.thread) ↔ (q.seat.number ≡ r.seat.number)
own_seats recorders i j q r threads seats first second = elim (cases_order i j) [
  | inl same ↦
      let one = same_Some q r (sym first ∙ ap (slice_get recorders) same ∙ second) in
      (λ e. ap (λ (x : RecorderView). x.seat.number) one, λ e. ap (λ (x : RecorderView). x.thread) one)
  | inr (inl below) ↦ (
    λ e. absurd (threads_differ recorders i j q r threads (λ s. omega (arith, s, below)) first second e),
    λ e. absurd (seats_differ recorders i j q r seats below first second e),
  )
  | inr (inr above) ↦ (
    λ e. absurd (threads_differ recorders i j q r threads (λ s. omega (arith, s, above)) first second e),
    λ e. absurd (seats_differ recorders j i r q seats above second first (sym e)),
  )
]

-- what is asked of the recorders of a run and of the history of their ledger
pub record HaveShared (recorders : List RecorderView) (closed : ClosedView) (history : List Step)
    : Type 0 where
  pub legal : IsLegal history
  pub calls : HasCallsOf history (map (λ (r : RecorderView). r.seat) recorders)
  pub backed : All (λ (r : RecorderView). IsBacked r.before r.records r.known r.seat) recorders
  pub unused : All HasUnusedSeat recorders
  pub shares : AreAll (shares_of recorders)
  pub threads : AreApart recorders
  pub same : AreOf recorders closed.buffers
  pub are : AreClosed closed
  pub apart : HaveOwnThreads closed.buffers

pub history_of : (recorders : List RecorderView) (closed : ClosedView) (history : List Step)
    → HaveShared recorders closed history → IsHistoryOf (gathered closed.buffers) history
history_of recorders closed history had = record {
  legal = had.legal;
  seats = map seated recorders;
  own = λ s t first second.
      let (q, among_q, is_q) = mapped_from seated recorders s first in
      let (r, among_r, is_r) = mapped_from seated recorders t second in
      let (i, at_q) = contains_get recorders q among_q in
      let (j, at_r) = contains_get recorders r among_r in
      subst (λ (x : Seated). (x.thread ≡ t.thread) ↔ (x.seat ≡ t.seat)) is_q
      (subst (λ (y : Seated). (q.thread ≡ y.thread) ↔ (q.seat.number ≡ y.seat)) is_r
      (own_seats recorders i j q r had.threads seats at_q at_r));
  each = λ x there.
      let (r, among, is) = record_thread recorders closed x had.same had.are there in
      (seated r, mapped_to seated recorders r among, is);
  calls = λ s there.
      let (r, among, is) = mapped_from seated recorders s there in
      subst (λ (x : Seated). IsWithLooks
      (ledger_calls x.seat (thread_records (gathered closed.buffers) x.thread))
      (seat_calls x.seat history)) is
      (recorder_calls r among);
  enters = λ call there enter.
      let (i, is) = contains_get history call there in
      let (k, r, stands, number) = claimed_by call.seat recorders
      (all_get (IsEnterOf recorders) history i call enters is enter) in
      (seated r, mapped_to seated recorders r (get_contains recorders r k stands), number);
}
  where
    alone : flat_map claims_of (map (λ (r : RecorderView). r.seat) recorders)
        ≡ map (λ (r : RecorderView). claim_of r.seat) recorders
    alone = claims-alone recorders (recursion_from_All HasUnusedSeat recorders had.unused)

    claims : AreClaimed recorders history
    claims = subst (AreClaims history) alone had.calls.claims

    seats : HaveOwnSeats recorders
    seats = subst AreSeatsApart alone had.calls.apart

    enters : AreEntersOf (map (λ (r : RecorderView). claim_of r.seat) recorders) history
    enters = subst (λ cs. AreEntersOf cs history) alone
        (had.calls.enters
        (subst AreAll
        (sym (flat_map-map (λ (v : View). v.shares) (λ (r : RecorderView). r.seat) recorders)) had.shares))

    recorder_calls : (r : RecorderView) → Contains recorders r
        → IsWithLooks (ledger_calls r.seat.number (thread_records (gathered closed.buffers) r.thread))
        (seat_calls r.seat.number history)
    recorder_calls r among =
        let (k, is) = contains_get recorders r among in
        let backed = all_get (λ (q : RecorderView). IsBacked q.before q.records q.known q.seat) recorders k r
        had.backed is in
        let unused = all_get HasUnusedSeat recorders k r had.unused is in
        let (more, all, calls) = backed.calls in
        subst (λ own. IsWithLooks
        (ledger_calls r.seat.number (thread_records (gathered closed.buffers) r.thread)) own)
        (sym (claimed_at history recorders k r claims is ∙ all ∙ ap (λ l. l ++ more) unused.0))
        (subst (λ rs. IsWithLooks (ledger_calls r.seat.number rs) more)
        (sym (recorder_records recorders closed r had.same had.are had.apart among)) calls)
