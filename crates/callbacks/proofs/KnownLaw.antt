-- The lengths of the ledger that records name rise along a thread, and where tasks are handed over.
use Rattle.std.proofs.Common.{◌≡◌, ◌∙◌, ℕ, zero, suc, ◌+◌, ◌<◌, ◌≤◌, Bool, true, false, List, [], ◌∷◌, ◌++◌}
use Rattle.std.proofs.Common.{length, take, Option, Some, None, refl, sym, ap, arith, inl, inr}
use Rattle.std.specs.Prelude.{slice_get, is_some, option_and_then, if◌then◌else◌}
use Rattle.std.specs.Option.{option_map_or}
use Rattle.std.proofs.lemmas.Bool.{cases_lt}
use Rattle.std.proofs.lemmas.Option.{none-some, same_Some, slice_get_within, get_or_from_slice_get}
use Rattle.std.proofs.lemmas.List.{take_more, take_all}
use Rattle.ompt_events.specs.declared.records.Record.{Record}
use Rattle.ompt_events.specs.declared.records.Body.{Body}
use Rattle.ompt_events.specs.declared.records.Body.TheVariants.{TaskSchedule}
use Rattle.ompt_events.specs.declared.names.Status.TheVariants.{Yield, Switch}
use Rattle.ompt_events.specs.declared.cause.Cause.TheVariants.{LengthBack}
use Rattle.ompt_events.specs.Records.{created, suspended_turn, finish}
use Rattle.ompt_events.specs.Places.{at, thread_at, seen_at}
use Rattle.ompt_events.specs.HappensBefore.{IsProgramStep, thread_order, creation, resumption, discard}
use Rattle.ompt_events.specs.HappensBefore.{fulfilment}
use Rattle.ompt_events.specs.Causes.{IsFreeOf, known_after, length_back}
use Rattle.ompt_events.proofs.PlaceLemmas.{get_at, thread_get}
use Rattle.ompt_events.proofs.ListLemmas.{all_get, get_within}
use Rattle.ompt_events.proofs.RecordLemmas.{created_unfinished}
use Rattle.callbacks.specs.Logs.{known_from, known_of, AreOrderly}
use Rattle.callbacks.proofs.LogLemmas.{known-pushed}
use Rattle.callbacks.specs.Closed.{ClosedView, IsBuffer, AreClosed}
use Rattle.callbacks.specs.Gathered.{gathered, HaveOwnThreads, AreHandedOver, started, was_discarded}
use Rattle.callbacks.specs.Gathered.{was_fulfilled}
use Rattle.callbacks.specs.Gathered.{runs_on}
use Rattle.callbacks.proofs.GatherLemmas.{of_one, seen_get}

-- ---- along one thread

pub take_next : {X : Type 0} (xs : List X) (i : ℕ) (x : X) → slice_get xs i ≡ Some x
    → take (i + 1) xs ≡ take i xs ++ x ∷ []
take_next xs i x is =
    take_more xs i x (slice_get_within xs i x is)
    ∙ ap (λ y. take i xs ++ y ∷ []) (get_or_from_slice_get xs i x x is)

known_next : (own : List Record) (k : ℕ) (r : Record) → slice_get own k ≡ Some r
    → known_of (take (k + 1) own) ≡ known_from r.seen r.body
known_next own k r is = ap known_of (take_next own k r is) ∙ known-pushed (take k own) r

pub seen_known : (seen : ℕ) (body : Body) → seen ≤ known_from seen body
seen_known seen body = of (is_some (finish body))
  where
    of : (b : Bool) → seen ≤ (if b then seen + 1 else seen)
    of true = omega arith
    of false = omega arith

known_grows : (thread : ℕ) (own : List Record) (k : ℕ) → AreOrderly thread own → k < length own
    → known_of (take k own) ≤ known_of (take (suc k) own)
known_grows thread own k orderly within =
    let (r, is) = get_within own k within in
    let rises = (orderly k r is).seen_rises in
    let on : suc k ≡ k + 1 = omega arith in
    let more = ap (λ n. known_of (take n own)) on in
    omega (arith, rises, more, known_next own k r is, seen_known r.seen r.body)

known_rises : (thread : ℕ) (own : List Record) (k m : ℕ) → AreOrderly thread own → k ≤ m → m ≤ length own
    → known_of (take k own) ≤ known_of (take m own)
known_rises thread own k zero orderly low within =
    let same : k ≡ zero = omega (arith, low) in omega (arith, ap (λ n. known_of (take n own)) same)
known_rises thread own k (suc m) orderly low within = elim (cases_lt k (suc m)) [
  | inl less ↦
      let before = known_rises thread own k m orderly (omega (arith, less)) (omega (arith, within)) in
      let more = known_grows thread own m orderly (omega (arith, within)) in
      omega (arith, before, more)
  | inr past ↦
      let same : k ≡ suc m = omega (arith, low, past) in omega (arith, ap (λ n. known_of (take n own)) same)
]

-- what is known after a record is no more than a later one names
pub known_between : (thread : ℕ) (own : List Record) (k m : ℕ) (q r : Record) → AreOrderly thread own → k < m
    → slice_get own k ≡ Some q → slice_get own m ≡ Some r → known_from q.seen q.body ≤ r.seen
known_between thread own k m q r orderly less first second =
    let within = slice_get_within own m r second in
    let rises = known_rises thread own (k + 1) m orderly (omega (arith, less)) (omega (arith, within)) in
    omega (arith, known_next own k q first, rises, (orderly m r second).seen_rises)

-- nor more than is known after all
pub known_within : (thread : ℕ) (own : List Record) (k : ℕ) (r : Record) → AreOrderly thread own
    → slice_get own k ≡ Some r → known_from r.seen r.body ≤ known_of own
known_within thread own k r orderly is =
    let within = slice_get_within own k r is in
    let rises = known_rises thread own (k + 1) (length own) orderly (omega (arith, within)) (omega arith) in
    let all = ap known_of (take_all (length own) own (omega arith)) in
    omega (arith, known_next own k r is, rises, all)

-- ---- in the gathered trace

-- what is known after a record is no more than a later one of its thread names
pub known_later : (closed : ClosedView) (k i : ℕ) (q r : Record) → AreClosed closed
    → HaveOwnThreads closed.buffers
    → k < i → slice_get (gathered closed.buffers) k ≡ Some q → slice_get (gathered closed.buffers) i ≡ Some r
    → q.thread ≡ r.thread → known_from q.seen q.body ≤ r.seen
known_later closed k i q r are apart less first second same =
    let one = of_one closed k i q r are apart less first second same in
    let is_buffer = all_get (IsBuffer closed.entries) closed.buffers one.number one.buffer are.buffers in
    let orderly = (is_buffer one.stands).orderly in
    known_between one.buffer.thread one.buffer.records one.first one.second q r orderly one.rises
    one.first_is one.second_is

after_get : (rs : List Record) (i : ℕ) (r : Record) → slice_get rs i ≡ Some r
    → known_after rs i ≡ known_from r.seen r.body
after_get rs i r is = ap (λ (o : Option Record).
    if is_some (option_and_then (λ (q : Record). finish q.body) o)
    then option_map_or (λ (q : Record). q.seen) o 0 + 1
    else option_map_or (λ (q : Record). q.seen) o 0) is

not_back_in_thread : (closed : ClosedView) (k i : ℕ) → AreClosed closed → HaveOwnThreads closed.buffers
    → k < i
    → i < length (gathered closed.buffers)
    → thread_at (gathered closed.buffers) k ≡ thread_at (gathered closed.buffers) i
    → known_after (gathered closed.buffers) k ≤ seen_at (gathered closed.buffers) i
not_back_in_thread closed k i are apart less within same =
    let rs = gathered closed.buffers in
    let (q, first) = get_within rs k (omega (arith, less, within)) in
    let (r, second) = get_within rs i within in
    let thread : q.thread ≡ r.thread =
    same_Some q.thread r.thread (sym (thread_get rs k q first) ∙ same ∙ thread_get rs i r second) in
    let later = known_later closed k i q r are apart less first second thread in
    omega (arith, later, after_get rs k q first, seen_get rs i r second)

-- ---- a record that hands a task over makes no entry

suspended_unfinished : (body : Body) (t : ℕ × ℕ) → suspended_turn body ≡ Some t → finish body ≡ None
suspended_unfinished (TaskSchedule Yield turns prior next claimed) t is = refl
suspended_unfinished (TaskSchedule Switch turns prior next claimed) t is = refl
suspended_unfinished _ t is = absurd (none-some t is)

unfinished_after : {X : Type 0} (f : Body → Option X) (rs : List Record) (i : ℕ) (x : X)
    → ((body : Body) → f body ≡ Some x → finish body ≡ None) → at f rs i ≡ Some x
    → known_after rs i ≡ seen_at rs i
unfinished_after f rs i x unfinished says =
    let (r, is, has) = get_at f rs i x says in
    after_get rs i r is
    ∙ ap (λ (o : Option _). if is_some o then r.seen + 1 else r.seen) (unfinished r.body has)
    ∙ sym (seen_get rs i r is)

created_after : (rs : List Record) (i task : ℕ) → at created rs i ≡ Some task
    → known_after rs i ≡ seen_at rs i
created_after rs i task says =
    unfinished_after created rs i task (λ body is. created_unfinished body task is) says

suspended_after : (rs : List Record) (i : ℕ) (t : ℕ × ℕ) → at suspended_turn rs i ≡ Some t
    → known_after rs i ≡ seen_at rs i
suspended_after rs i t says =
    unfinished_after suspended_turn rs i t (λ body is. suspended_unfinished body t is) says

-- ---- the law

not_back : (closed : ClosedView) (k i : ℕ) → AreClosed closed → HaveOwnThreads closed.buffers
    → AreHandedOver (gathered closed.buffers) → IsProgramStep (gathered closed.buffers) k i
    → known_after (gathered closed.buffers) k ≤ seen_at (gathered closed.buffers) i
not_back closed k i are apart handed (thread_order less within same) =
    not_back_in_thread closed k i are apart less within same
not_back closed k i are apart handed (creation task creates starts) =
    let first = created_after (gathered closed.buffers) k task creates in
    omega (arith, first, handed k i (started task creates starts))
not_back closed k i are apart handed (resumption resumes) =
    let first = suspended_after (gathered closed.buffers) k (resumes.task, resumes.turn) resumes.suspends in
    omega (arith, first, handed k i (runs_on resumes))
not_back closed k i are apart handed (discard task creates discards) =
    let first = created_after (gathered closed.buffers) k task creates in
    omega (arith, first, handed k i (was_discarded task creates discards))
not_back closed k i are apart handed (fulfilment task creates fulfils) =
    let first = created_after (gathered closed.buffers) k task creates in
    omega (arith, first, handed k i (was_fulfilled task creates fulfils))

pub none_back : (closed : ClosedView) → AreClosed closed → HaveOwnThreads closed.buffers
    → AreHandedOver (gathered closed.buffers) → IsFreeOf (gathered closed.buffers) LengthBack
none_back closed are apart handed i (length_back (k, step, less)) =
    omega (arith, not_back closed k i are apart handed step, less)
