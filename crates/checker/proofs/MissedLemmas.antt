-- A task that is unfinished by what the record has seen is incomplete in some order: in that in which the
-- record comes as early as the ledger lengths allow.
use Rattle.std.proofs.Common.{◌≡◌, ◌∙◌, ℕ, zero, suc, ◌<◌, ◌≤◌, ◌+◌, Bool, true, false, cond, ltb, List, []}
use Rattle.std.proofs.Common.{◌∷◌, ◌++◌, length, refl, sym, ap, subst, arith, inl, inr}
use Rattle.std.specs.Prelude.{Contains, IsPermutation, filter, Some, is_some, not}
use Rattle.std.proofs.lemmas.Bool.{false≢true, cases_lt, ltb-true, lt-ltb}
use Rattle.std.proofs.lemmas.List.{append_assoc}
use Rattle.std.proofs.lemmas.List.Elements.{Contains-append_left, Contains-append_right}
use Rattle.std.proofs.lemmas.List.Elements.{Contains-append_cases}
use Rattle.std.proofs.lemmas.List.Sorted.{IsPermutation-append_left, IsPermutation-append_right}
use Rattle.std.proofs.lemmas.List.Sorted.{IsPermutation-middle, IsPermutation-trans}
use Rattle.std.proofs.lemmas.List.Sorted.{IsPermutation-filter_both, Contains-permutation}
use Rattle.ompt_events.specs.declared.records.Record.{Record}
use Rattle.ompt_events.specs.declared.records.Part.{Part}
use Rattle.ompt_events.specs.declared.records.Part.TheVariants as part
use Rattle.ompt_events.specs.declared.cause.Cause.TheVariants.{LengthBack}
use Rattle.ompt_events.specs.Records.{finish, started, wait_completed}
use Rattle.ompt_events.specs.Places.{at, seen_at, places}
use Rattle.ompt_events.specs.HappensBefore.{IsStep, HappensBefore, program, ledger, step, chain}
use Rattle.ompt_events.specs.Linearization.{IsEarlier, IsLinearization}
use Rattle.ompt_events.specs.Completion.{IsPartFinished, CountsIn, CountsAt, IsCompleteIn, IsCompleteAt}
use Rattle.ompt_events.specs.Causes.{IsFreeOf, known_after, length_back}
use Rattle.checker.specs.declared.verdict.Why.{Why}
use Rattle.checker.specs.Readings.{Reading, by_task, IsRequiredBy}
use Rattle.checker.specs.Verdicts.{IsUnfinished, IsFirstUnfinished, IsMissed, IsFirstMissed, IsRejected}
use Rattle.checker.specs.Verdicts.{task_of}
use Rattle.checker.specs.Search.{IsOfRecords, ClearView, IsClearView, IsFirstViolation}
use Rattle.ompt_events.proofs.PlaceLemmas.{Contains-filter, contains_place, at_within}
use Rattle.checker.proofs.LengthLemmas.{known_least}
use Rattle.checker.proofs.VerdictLemmas.{complete_in, preceded_starts}
use Rattle.checker.proofs.ReadingLemmas.{of_tasks, shows_none}
use Rattle.checker.proofs.EarlierLemmas.{earlier_first, earlier_behind, earlier_cases, earlier_left}
use Rattle.checker.proofs.EarlierLemmas.{earlier_right, earlier_across, earlier_append_cases, earlier_filter}
use Rattle.checker.proofs.EarlierLemmas.{earlier_from, earlier_to, earlier_apart, order_apart, split_at}
use Rattle.checker.proofs.EarlierLemmas.{filter_holds}

-- ---- what happens before a record is known there

pub known_finish : (rs : List Record) (a : ℕ) → is_some (at finish rs a) ≡ true
    → known_after rs a ≡ seen_at rs a + 1
known_finish rs a finishes = ap (λ b. cond b (seen_at rs a + 1) (seen_at rs a)) finishes

step_known : (rs : List Record) (a b : ℕ) → IsFreeOf rs LengthBack → IsStep rs a b
    → known_after rs a ≤ seen_at rs b
step_known rs a b free (program taken) = elim (cases_lt (seen_at rs b) (known_after rs a)) [
  | inl less ↦ absurd (free b (length_back (a, taken, less)))
  | inr most ↦ most
]
step_known rs a b free (ledger finishes less) =
    let known = known_finish rs a finishes in omega (arith, known, less)

pub before_known : (rs : List Record) (a b : ℕ) → IsFreeOf rs LengthBack → HappensBefore rs a b
    → known_after rs a ≤ seen_at rs b
before_known rs a b free (step taken) = step_known rs a b free taken
before_known rs a b free (chain {b = mid} first second) =
    let low = before_known rs a mid free first in
    let here = known_least rs mid in
    let high = before_known rs mid b free second in
    omega (arith, low, here, high)

-- ---- the record as early as the ledger lengths allow

-- what is known after the record at k is seen by that at i
abbrev pub is_seen : List Record → ℕ → ℕ → Bool
is_seen rs i k = ltb (known_after rs k) (seen_at rs i + 1)

abbrev pub is_unseen : List Record → ℕ → ℕ → Bool
is_unseen rs i k = not (is_seen rs i k)

-- of those before i only the seen ones stay there
abbrev pub moved_up : List Record → ℕ → List ℕ → List ℕ → List ℕ
moved_up rs i front back = filter (is_seen rs i) front ++ i ∷ (filter (is_unseen rs i) front ++ back)

seen_holds : (rs : List Record) (i k : ℕ) → known_after rs k ≤ seen_at rs i → is_seen rs i k ≡ true
seen_holds rs i k low = lt-ltb (known_after rs k) (seen_at rs i + 1) (omega (arith, low))

seen_low : (rs : List Record) (i k : ℕ) → is_seen rs i k ≡ true → known_after rs k ≤ seen_at rs i
seen_low rs i k holds = let less = ltb-true (known_after rs k) (seen_at rs i + 1) holds in omega (arith, less)

-- what happens before a seen record is seen
seen_before : (rs : List Record) (i a b : ℕ) → IsFreeOf rs LengthBack → HappensBefore rs a b
    → is_seen rs i b ≡ true → is_seen rs i a ≡ true
seen_before rs i a b free before holds =
    let low = before_known rs a b free before in
    let here = known_least rs b in
    let high = seen_low rs i b holds in
    seen_holds rs i a (omega (arith, low, here, high))

moved_all : (rs : List Record) (i : ℕ) (front back : List ℕ) → IsPermutation (places rs) (front ++ i ∷ back)
    → IsPermutation (places rs) (moved_up rs i front back)
moved_all rs i front back permutation =
    let seen = filter (is_seen rs i) front in
    let unseen = filter (is_unseen rs i) front in
    let parted : IsPermutation (front ++ i ∷ back) ((seen ++ unseen) ++ i ∷ back) =
    IsPermutation-append_left (i ∷ back) front (seen ++ unseen)
    (IsPermutation-filter_both (is_seen rs i) (is_unseen rs i) (λ x. refl) front) in
    let up : IsPermutation (seen ++ (unseen ++ i ∷ back)) (moved_up rs i front back) =
    IsPermutation-append_right seen (unseen ++ i ∷ back) (i ∷ (unseen ++ back))
    (IsPermutation-middle unseen i back) in
    let P : List ℕ → Type 0 = IsPermutation (front ++ i ∷ back) in
    IsPermutation-trans (places rs) (front ++ i ∷ back) (moved_up rs i front back) permutation
    (IsPermutation-trans (front ++ i ∷ back) (seen ++ (unseen ++ i ∷ back)) (moved_up rs i front back)
    (subst P (append_assoc seen unseen (i ∷ back)) parted) up)

moved_rising : (rs : List Record) (i a b : ℕ) (front back : List ℕ) → IsFreeOf rs LengthBack
    → HappensBefore rs a b → IsEarlier (front ++ i ∷ back) a b → IsEarlier (moved_up rs i front back) a b
moved_rising rs i a b front back free before e = elim (earlier_append_cases front (i ∷ back) a b e) [
  | inl both ↦ in_front both (is_seen rs i b) refl
  | inr (inl (left, right)) ↦ across left right (is_seen rs i a) refl
  | inr (inr last) ↦ behind last
]
  where
    seen : List ℕ
    seen = filter (is_seen rs i) front

    unseen : List ℕ
    unseen = filter (is_unseen rs i) front

    kept : (k : ℕ) → Contains front k → is_seen rs i k ≡ true → Contains seen k
    kept k has holds = Contains-filter (is_seen rs i) front k has holds

    later : (k : ℕ) → Contains front k → is_seen rs i k ≡ false → Contains unseen k
    later k has fails = Contains-filter (is_unseen rs i) front k has (ap not fails)

    in_front : IsEarlier front a b → (t : Bool) → is_seen rs i b ≡ t
        → IsEarlier (moved_up rs i front back) a b
    in_front both true holds =
        earlier_left seen (i ∷ (unseen ++ back)) a b
        (earlier_filter (is_seen rs i) front a b (seen_before rs i a b free before holds) holds both)
    in_front both false fails = of (is_seen rs i a) refl
      where
        of : (t : Bool) → is_seen rs i a ≡ t → IsEarlier (moved_up rs i front back) a b
        of true holds =
            earlier_across seen (i ∷ (unseen ++ back)) a b (kept a (earlier_from front a b both) holds)
            (Contains-append_right (i ∷ []) (unseen ++ back) b
            (Contains-append_left unseen back b (later b (earlier_to front a b both) fails)))
        of false fails_too =
            earlier_right seen (i ∷ (unseen ++ back)) a b
            (earlier_behind i (unseen ++ back) a b
            (earlier_left unseen back a b
            (earlier_filter (is_unseen rs i) front a b (ap not fails_too) (ap not fails) both)))

    across : Contains front a → Contains (i ∷ back) b → (t : Bool) → is_seen rs i a ≡ t
        → IsEarlier (moved_up rs i front back) a b
    across left right true holds =
        earlier_across seen (i ∷ (unseen ++ back)) a b (kept a left holds) (
        elim (Contains-append_cases (i ∷ []) back b right) [
          | inl here ↦ Contains-append_left (i ∷ []) (unseen ++ back) b here
          | inr more ↦
              Contains-append_right (i ∷ []) (unseen ++ back) b (Contains-append_right unseen back b more)
        ])
    across left right false fails = elim (Contains-append_cases (i ∷ []) back b right) [
      | inl here ↦ absurd (at_i here fails)
      | inr more ↦
          earlier_right seen (i ∷ (unseen ++ back)) a b
          (earlier_behind i (unseen ++ back) a b
          (earlier_across unseen back a b (later a left fails) more))
    ]
      where
        -- what happens before i itself is seen
        at_i : Contains (i ∷ []) b → is_seen rs i a ≡ false → ⊥
        at_i (zero, below, is) fails =
            let P : ℕ → Type 0 = HappensBefore rs a in
            false≢true (sym fails ∙ seen_holds rs i a (before_known rs a i free (subst P (sym is) before)))
        at_i (suc k, below, is) fails = absurd (omega (arith, below))

    behind : IsEarlier (i ∷ back) a b → IsEarlier (moved_up rs i front back) a b
    behind last = elim (earlier_cases i back a b last) [
      | inl (same, more) ↦
          let P : ℕ → Type 0 = λ k. IsEarlier (moved_up rs i front back) k b in
          subst P same
          (earlier_right seen (i ∷ (unseen ++ back)) i b
          (earlier_first i (unseen ++ back) b (Contains-append_right unseen back b more)))
      | inr both ↦
          earlier_right seen (i ∷ (unseen ++ back)) a b
          (earlier_behind i (unseen ++ back) a b (earlier_right unseen back a b both))
    ]

moved_linear : (rs : List Record) (i : ℕ) (front back : List ℕ) → IsFreeOf rs LengthBack
    → IsLinearization rs (front ++ i ∷ back) → IsLinearization rs (moved_up rs i front back)
moved_linear rs i front back free linear = record {
  all_once = moved_all rs i front back linear.all_once;
  rising = λ a b before. moved_rising rs i a b front back free before (linear.rising a b before);
}

-- ---- what is complete there is finished by what is seen

-- of the records before i in it each was seen
earlier_seen : (rs : List Record) (i k : ℕ) (front back : List ℕ)
    → IsPermutation (places rs) (moved_up rs i front back) → IsEarlier (moved_up rs i front back) k i
    → known_after rs k ≤ seen_at rs i
earlier_seen rs i k front back permutation e = elim (earlier_append_cases seen (i ∷ rest) k i e) [
  | inl both ↦
      absurd (once (earlier_across seen (i ∷ rest) i i (earlier_to seen k i both) (0, omega arith, refl)))
  | inr (inl (left, right)) ↦ seen_low rs i k (filter_holds (is_seen rs i) front k left)
  | inr (inr last) ↦
      absurd (once (earlier_right seen (i ∷ rest) i i (earlier_first i rest i (
      elim (earlier_cases i rest k i last) [
        | inl (same, more) ↦ more
        | inr both ↦ earlier_to rest k i both
      ]))))
]
  where
    seen : List ℕ
    seen = filter (is_seen rs i) front

    rest : List ℕ
    rest = filter (is_unseen rs i) front ++ back

    once : IsEarlier (moved_up rs i front back) i i → ⊥
    once = earlier_apart (moved_up rs i front back) i (order_apart rs (moved_up rs i front back) permutation)

complete_at : (rs : List Record) (i task : ℕ) (front back : List ℕ)
    → IsPermutation (places rs) (moved_up rs i front back) → IsCompleteIn rs (moved_up rs i front back) task i
    → IsCompleteAt rs task i
complete_at rs i task front back permutation complete = elim complete [
  | inl whole ↦ inl (of part.Whole whole)
  | inr (body, event) ↦ inr (of part.Body body, of part.Event event)
]
  where
    counts : (k : ℕ) (p : Part) → at finish rs k ≡ Some (task, p) → CountsIn rs (moved_up rs i front back) i k
        → CountsAt rs i k
    counts k p finishes (inl earlier) =
        let low = earlier_seen rs i k front back permutation earlier in
        let known = known_finish rs k (ap is_some finishes) in
        inl (omega (arith, low, known))
    counts k p finishes (inr starts) = inr starts

    of : (p : Part) → IsPartFinished rs (CountsIn rs (moved_up rs i front back) i) task p
        → IsPartFinished rs (CountsAt rs i) task p
    of p (k, finishes, counted) = (k, finishes, counts k p finishes counted)

-- ---- unfinished is missed

pub required_within : (reading : Reading) (i task : ℕ) → IsOfRecords reading → IsRequiredBy reading i task
    → i < length reading.records
required_within reading i task of (inl covers) = of.within i task covers
required_within reading i task of (inr precedes) =
    let own = preceded_starts reading i task precedes in
    elim own.1 [
      | inl starts ↦ at_within started reading.records i own.0 starts
      | inr completes ↦ at_within wait_completed reading.records i own.0 completes
    ]

-- an order in which the record comes as early as the ledger lengths allow: what is complete there has been
-- seen
pub early_order : (reading : Reading) (order : List ℕ) (i task : ℕ) → IsOfRecords reading
    → IsFreeOf reading.records LengthBack → IsLinearization reading.records order
    → IsRequiredBy reading i task
    → (early : List ℕ) × IsLinearization reading.records early
    × (IsCompleteIn reading.records early task i → IsCompleteAt reading.records task i)
early_order reading order i task of free linear required =
    let rs = reading.records in
    let has : Contains order i =
    Contains-permutation (places rs) order i linear.all_once
    (contains_place rs i (required_within reading i task of required)) in
    let parts = split_at order i has in
    let P : List ℕ → Type 0 = IsLinearization rs in
    let moved = moved_linear rs i parts.0 parts.1 free (subst P parts.2 linear) in
    (moved_up rs i parts.0 parts.1, moved, complete_at rs i task parts.0 parts.1 moved.all_once)

-- so an unfinished task is incomplete there
pub missed_by : (reading : Reading) (order : List ℕ) (i task : ℕ) → IsOfRecords reading
    → IsFreeOf reading.records LengthBack → IsLinearization reading.records order
    → IsUnfinished reading i task → IsMissed reading i task
missed_by reading order i task of free linear unfinished =
    let early = early_order reading order i task of free linear unfinished.required in
    record {
      required = unfinished.required;
      order = early.0;
      linearization = early.1;
      incomplete = λ complete. unfinished.incomplete (early.2 complete);
    }

-- and a missed one is unfinished
pub unfinished_by : (reading : Reading) (i task : ℕ) → IsMissed reading i task → IsUnfinished reading i task
unfinished_by reading i task missed = record {
  required = missed.required;
  incomplete =
      λ complete.
      missed.incomplete (complete_in reading.records missed.order i task missed.linearization complete);
}

-- so the first unfinished task is the first missed one
first_missed : (reading : Reading) (order : List ℕ) (i task : ℕ) → IsOfRecords reading
    → IsFreeOf reading.records LengthBack → IsLinearization reading.records order
    → IsFirstUnfinished reading i task → IsFirstMissed reading i task
first_missed reading order i task of free linear is = record {
  so = missed_by reading order i task of free linear is.so;
  first = λ k other below missed. is.first k other below (unfinished_by reading k other missed);
  creation = is.creation;
  is_created = is.is_created;
  created_first =
      λ k other below creates missed.
      is.created_first k other below creates (unfinished_by reading i other missed);
}

-- a no
pub rejected : (view : ClearView) (i : ℕ) (why : Why) → IsClearView view
    → IsFirstViolation (by_task view.run.records) i why → IsRejected (by_task view.run.records) i why
rejected view i why clear found = record {
  well_formed = shows_none view.run.records clear.well_formed;
  unfinished = found.unfinished;
  missed =
      first_missed (by_task view.run.records) view.order i (task_of why) (of_tasks view.run.records)
      (clear.well_formed LengthBack (15, omega arith, refl)) clear.linearization found.unfinished;
  reason = found.reason;
}
