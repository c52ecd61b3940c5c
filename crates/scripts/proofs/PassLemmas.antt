-- In the trace of a run each task is passed on with the ledger's length, and each step comes after those that
-- it waits for.
use Rattle.std.proofs.Common.{ℕ, ◌≡◌, ◌≢◌, ◌∙◌, ◌+◌, ◌<◌, ◌≤◌, List, Some, Option, length, map, take, refl}
use Rattle.std.proofs.Common.{sym, ap, subst, arith, inl, inr, zero, suc, [], ◌∷◌}
use Rattle.std.specs.Prelude.{All, slice_get, option_map, option_and_then}
use Rattle.std.specs.List.Sorted.{IsPermutation}
use Rattle.std.proofs.lemmas.Bool.{cases_eq}
use Rattle.std.proofs.lemmas.List.{take_all}
use Rattle.std.proofs.lemmas.Option.{none-some, same_Some, slice_get_within}
use Rattle.ompt_events.specs.declared.records.Record.{Record}
use Rattle.ompt_events.proofs.ListLemmas.{get_contains, contains_get, all_get}
use Rattle.credit_ledger.specs.declared.view.Step as seat_step
use Rattle.credit_ledger.specs.Seats.{AreClaims, StartsWith, claim_of}
use Rattle.scripts.specs.declared.script.Step.{Step}
use Rattle.scripts.specs.Scripts.{ScriptView, step_count}
use Rattle.callbacks.specs.Recorders.{RecorderView}
use Rattle.callbacks.specs.Closed.{ClosedView, AreClosed, thread_of, recorded_by}
use Rattle.callbacks.specs.Gathered.{gathered, HaveOwnThreads}
use Rattle.callbacks.proofs.KnownLaw.{known_between, seen_known}
use Rattle.scripts.specs.HandOvers.{step_record, ArePassedOn, AreAwaited}
use Rattle.scripts.specs.Progress.{own_records, thread_records}
use Rattle.scripts.specs.Parts.{IsCared, IsAware, HasKnown, HasNamed, HasRecordAt, IsStepKnown}
use Rattle.scripts.specs.Parts.{ledger_count, number_of}
use Rattle.credit_ledger.specs.declared.view.View.{View}
use Rattle.scripts.proofs.NoteLemmas.{use_there}
use Rattle.scripts.proofs.CloseLemmas.{AreApart, threads_differ}
use Rattle.scripts.proofs.GatherLemmas.{recorder_records, recorder_orderly}
use Rattle.scripts.proofs.HandOverLemmas.{AreAllAccepted, own_count}
use Rattle.scripts.proofs.KnownLemmas.{known_below}
use Rattle.scripts.proofs.PlaceLemmas.{count_past, none_between}

-- what is asked of the recorders of a run that no step ends
pub record AreRunBy (script : ScriptView) (seats : List (Option View)) (recorders : List RecorderView)
    (closed : ClosedView) (history : List seat_step.Step) : Type 0 where
  pub accepted : AreAllAccepted script
  pub aware : All (IsAware script seats (length script.steps)) recorders
  pub cared : (thread : ℕ) → IsCared script recorders thread
  pub same : IsPermutation (map recorded_by recorders) (map thread_of closed.buffers)
  pub are : AreClosed closed
  pub apart : HaveOwnThreads closed.buffers
  pub threads : AreApart recorders
  pub claims : AreClaims history (map (λ (r : RecorderView). claim_of r.seat) recorders)

-- the history begins with what the seat of a recorder has seen
seen_in : (history : List seat_step.Step) (recorders : List RecorderView) (k : ℕ) (r : RecorderView)
    → AreClaims history (map (λ (q : RecorderView). claim_of q.seat) recorders)
    → slice_get recorders k ≡ Some r → StartsWith history r.seat.seen
seen_in history [] k r claims is = absurd (none-some r is)
seen_in history (q ∷ recorders) zero r claims is =
    subst (λ (x : RecorderView). StartsWith history x.seat.seen) (same_Some q r is) claims.0.0
seen_in history (q ∷ recorders) (suc k) r claims is = seen_in history recorders k r claims.1 is

-- the record of a step, among those of its recorder
record HasOwn (script : ScriptView) (recorders : List RecorderView) (at : ℕ) (t : Step) (q : Record)
    : Type 0 where
  pub recorder : RecorderView
  pub index : ℕ
  pub among : slice_get recorders index ≡ Some recorder
  pub of_thread : recorder.thread ≡ t.thread
  pub stands : slice_get recorder.records (step_count (take at script.steps) t.thread) ≡ Some q
  pub there : HasRecordAt script recorder at q

own_of : (script : ScriptView) (seats : List (Option View)) (recorders : List RecorderView)
    (closed : ClosedView) (history : List seat_step.Step) (at : ℕ) (t : Step) (q : Record)
    → AreRunBy script seats recorders closed history → slice_get script.steps at ≡ Some t
    → step_record script.steps (gathered closed.buffers) at ≡ Some q → HasOwn script recorders at t q
own_of script seats recorders closed history at t q run is recorded = by (run.cared t.thread)
  where
    number : ℕ
    number = step_count (take at script.steps) t.thread

    here : slice_get (thread_records (gathered closed.buffers) t.thread) number ≡ Some q
    here =
        sym (ap (option_and_then (λ (s : Step).
        slice_get (thread_records (gathered closed.buffers) s.thread)
        (step_count (take at script.steps) s.thread)))
        is) ∙ recorded

    by : IsCared script recorders t.thread → HasOwn script recorders at t q
    by (inl none) =
        absurd
        (none_between script.steps t.thread 0 (length script.steps) (sym (whole none)) at t (omega arith)
        (slice_get_within script.steps at t is) is refl)
      where
        whole : step_count script.steps t.thread ≡ 0
            → step_count (take (length script.steps) script.steps) t.thread ≡ 0
        whole none =
            ap (λ l. step_count l t.thread) (take_all (length script.steps) script.steps (omega arith))
            ∙ none
    by (inr (r, among, of)) =
        let (k, stands_in) = contains_get recorders r among in
        let stands : slice_get r.records number ≡ Some q =
        ap (λ l. slice_get l number)
        (sym (recorder_records recorders closed r run.same run.are run.apart among))
        ∙ ap (λ n. slice_get (thread_records (gathered closed.buffers) n) number) of ∙ here in
        let within = slice_get_within script.steps at t is in
        let long : length (own_records script at r.thread) ≡ number =
        own_count script r.thread at run.accepted (omega (arith, within))
        ∙ ap (step_count (take at script.steps)) of in
        record {
          recorder = r;
          index = k;
          among = stands_in;
          of_thread = of;
          stands = stands;
          there = record {
            of_thread = ap (option_map (λ (s : Step). s.thread)) is ∙ ap Some (sym of);
            accepted = run.accepted at;
            stands = ap (slice_get r.records) long ∙ stands;
          };
        }

-- the record of a later step names no less than that of an earlier one of its thread, or of one of another
-- thread that is known with its length
not_less : (script : ScriptView) (seats : List (Option View)) (recorders : List RecorderView)
    (closed : ClosedView) (history : List seat_step.Step) (first next : ℕ) (t u : Step) (q r : Record)
    → AreRunBy script seats recorders closed history → slice_get script.steps first ≡ Some t → first < next
    → (one : HasOwn script recorders first t q) → (two : HasOwn script recorders next u r)
    → (t.thread ≢ two.recorder.thread → HasNamed script seats (length script.steps) two.recorder
    → IsStepKnown script seats two.recorder.seat.seen first t r.seen)
    → q.seen ≤ r.seen
not_less script seats recorders closed history first next t u q r run is below one two known_then =
    elim (cases_eq t.thread u.thread) [
      | inl same ↦ along same
      | inr apart ↦ across apart
    ]
  where
    along : t.thread ≡ u.thread → q.seen ≤ r.seen
    along same =
        let own : one.recorder ≡ two.recorder =
        same_recorder one.index two.index one.recorder two.recorder one.among two.among
        (one.of_thread ∙ same ∙ sym two.of_thread) in
        let past = count_past script.steps t.thread first next t is refl below in
        let number = ap (step_count (take next script.steps)) same in
        let orderly =
        recorder_orderly recorders closed two.recorder run.same run.are
        (get_contains recorders two.recorder two.index two.among) in
        let low =
        known_between two.recorder.thread two.recorder.records (step_count (take first script.steps) t.thread)
        (step_count (take next script.steps) u.thread) q r orderly (omega (arith, past, number))
        (ap (λ (x : RecorderView). slice_get x.records (step_count (take first script.steps) t.thread))
        (sym own)
        ∙ one.stands) two.stands in
        let known = seen_known q.seen q.body in
        omega (arith, low, known)
      where
        same_recorder : (i j : ℕ) (x y : RecorderView) → slice_get recorders i ≡ Some x
            → slice_get recorders j ≡ Some y → x.thread ≡ y.thread → x ≡ y
        same_recorder i j x y at_x at_y threads = elim (cases_eq i j) [
          | inl equal ↦ same_Some x y (sym at_x ∙ ap (slice_get recorders) equal ∙ at_y)
          | inr other ↦ absurd (threads_differ recorders i j x y run.threads other at_x at_y threads)
        ]

    across : t.thread ≢ u.thread → q.seen ≤ r.seen
    across apart =
        let aware = all_get (IsAware script seats (length script.steps)) recorders one.index one.recorder
        run.aware
        one.among in
        let other = all_get (IsAware script seats (length script.steps)) recorders two.index two.recorder
        run.aware
        two.among in
        let within = slice_get_within script.steps first t is in
        let known =
        subst (λ n. HasKnown one.recorder.seat.seen n (ledger_count script.steps t.thread (first + 1)) q.seen)
        (aware.seat.number ∙ ap (number_of seats) one.of_thread)
        (subst (λ n. HasKnown one.recorder.seat.seen one.recorder.seat.number
        (ledger_count script.steps n (first + 1)) q.seen) one.of_thread
        (aware.named.known first q within one.there)) in
        known_below history one.recorder.seat.seen two.recorder.seat.seen (number_of seats t.thread)
        (ledger_count script.steps t.thread (first + 1)) q.seen r.seen
        (seen_in history recorders one.index one.recorder run.claims one.among)
        (seen_in history recorders two.index two.recorder run.claims two.among) known
        (known_then (λ e. apart (e ∙ two.of_thread)) other.named)

pub passed_on : (script : ScriptView) (seats : List (Option View)) (recorders : List RecorderView)
    (closed : ClosedView) (history : List seat_step.Step) → AreRunBy script seats recorders closed history
    → ArePassedOn script.steps (gathered closed.buffers)
passed_on script seats recorders closed history run task first next q r uses recorded recorded_next =
    let (t, is) = use_there script.steps task first uses.used in
    let (u, also) = use_there script.steps task next uses.used_next in
    let one = own_of script seats recorders closed history first t q run is recorded in
    let two = own_of script seats recorders closed history next u r run also recorded_next in
    let within = slice_get_within script.steps next u also in
    not_less script seats recorders closed history first next t u q r run is uses.below one two
    (λ apart named. named.passed task first next t r within two.there uses is apart)

pub awaited : (script : ScriptView) (seats : List (Option View)) (recorders : List RecorderView)
    (closed : ClosedView) (history : List seat_step.Step) → AreRunBy script seats recorders closed history
    → AreAwaited script.steps (gathered closed.buffers)
awaited script seats recorders closed history run first at q r comes reads recorded recorded_next =
    let t = comes.before in
    let u = comes.step in
    let one = own_of script seats recorders closed history first t q run comes.is_before recorded in
    let two = own_of script seats recorders closed history at u r run comes.is_step recorded_next in
    let within = slice_get_within script.steps at u comes.is_step in
    not_less script seats recorders closed history first at t u q r run comes.is_before comes.below one two
    (λ apart named. named.awaited first at r within two.there comes reads apart)
