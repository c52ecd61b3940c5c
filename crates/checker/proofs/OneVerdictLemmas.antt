-- A trace has one verdict: the greedy order is one, the first unfinished task is one, and so is the least
-- cause at its first record.
use Rattle.std.proofs.Common.{◌≡◌, ◌∙◌, ℕ, zero, suc, ◌<◌, ◌≤◌, List, [], ◌∷◌, length, get_or, refl, sym, ap}
use Rattle.std.proofs.Common.{subst, arith, inl, inr, ◌⊎◌, add-one}
use Rattle.std.proofs.lemmas.Bool.{cases_order, false≢true}
use Rattle.std.proofs.lemmas.Option.{same_Some}
use Rattle.std.proofs.lemmas.List.{take_all, take_more_same}
use Rattle.std.proofs.lemmas.List.Sorted.{length_permutation}
use Rattle.std.specs.Prelude.{⊤, ◌==◌, take, slice_index}
use Rattle.ompt_events.specs.declared.records.Record.{Record}
use Rattle.ompt_events.specs.declared.cause.Cause.{Cause}
use Rattle.ompt_events.specs.declared.cause.Cause.TheVariants.{SeqGap, CreatedTwice, Rootless, NotCurrent}
use Rattle.ompt_events.specs.declared.cause.Cause.TheVariants.{Moved, TurnGap, StatusOrder, RegionOrder}
use Rattle.ompt_events.specs.declared.cause.Cause.TheVariants.{TeamShort, NestedParallel, RegionNesting}
use Rattle.ompt_events.specs.declared.cause.Cause.TheVariants.{DepsPlace, ShareWrong, EntryTwice}
use Rattle.ompt_events.specs.declared.cause.Cause.TheVariants.{LengthAhead, LengthBack, NoOrder, TargetTask}
use Rattle.ompt_events.specs.CauseNames.{cause_number}
use Rattle.ompt_events.specs.Records.{created}
use Rattle.ompt_events.specs.Places.{at}
use Rattle.ompt_events.specs.Traces.{IsTraceOf}
use Rattle.ompt_events.specs.Linearization.{IsLinearization, IsFirstReady, IsGreedy}
use Rattle.ompt_events.specs.Causes.{HasCause, moved, nested_parallel, region_nesting}
use Rattle.ompt_events.proofs.TurnLemmas.{first_version_tells_none, free_of_gaps}
use Rattle.task_states.proofs.NestingLemmas.{nests_all, nested_within, flat_nested, misnested_within}
use Rattle.task_states.proofs.NestingLemmas.{misnested_nests}
use Rattle.checker.specs.declared.verdict.Verdict.{Verdict}
use Rattle.checker.specs.declared.verdict.Verdict.TheVariants.{Yes, No, Malformed}
use Rattle.checker.specs.declared.verdict.Why.{Why}
use Rattle.checker.specs.declared.verdict.Why.TheVariants.{Unfinished, Predecessor}
use Rattle.checker.specs.Readings.{Reading, by_task, by_file}
use Rattle.checker.specs.Verdicts.{IsLeastShown, IsFirstSo, IsRejected, IsReason, IsVerdictBy, task_of}
use Rattle.checker.specs.Search.{IsOfRecords}
use Rattle.checker.proofs.TurnWalkLemmas.{first_or_told, starts_told}
use Rattle.checker.proofs.ReadingLemmas.{of_tasks, of_file}

-- ---- one order

one_ready : (rs : List Record) (may : ℕ → Type 0) (standing : List ℕ) (a b : ℕ)
    → IsFirstReady rs may standing a → IsFirstReady rs may standing b → a ≡ b
one_ready rs may standing a b one other = elim (cases_order a b) [
  | inl same ↦ same
  | inr (inl less) ↦ absurd (other.first a less one.ready)
  | inr (inr more) ↦ absurd (one.first b more other.ready)
]

-- two greedy orders of one length begin alike
begin_alike : (rs : List Record) (a b : List ℕ) → IsGreedy rs a → IsGreedy rs b → length a ≡ length b
    → (k : ℕ) → k ≤ length a → take k a ≡ take k b
begin_alike rs a b one other long zero within = refl
begin_alike rs a b one other long (suc k) within =
    let alike = begin_alike rs a b one other long k (omega arith) in
    let here : k < length a = omega arith in
    let there : k < length b = omega arith in
    let next : slice_index a k ≡ slice_index b k =
    one_ready rs (λ _. ⊤) (take k b) (slice_index a k) (slice_index b k)
    (subst (λ l. IsFirstReady rs (λ _. ⊤) l (slice_index a k)) alike (one k here)) (other k there) in
    subst (λ n. take n a ≡ take n b) (add-one k) (take_more_same a b k 0 here there alike next)

-- the greedy order of all records is one
one_order : (rs : List Record) (a b : List ℕ) → IsLinearization rs a → IsLinearization rs b → IsGreedy rs a
    → IsGreedy rs b → a ≡ b
one_order rs a b linear linear' one other =
    let p = length_permutation _ a linear.all_once in
    let q = length_permutation _ b linear'.all_once in
    let long : length a ≡ length b = p ∙ sym q in
    sym (take_all (length a) a (omega arith))
    ∙ begin_alike rs a b one other long (length a) (omega arith)
    ∙ take_all (length a) b (omega (arith, long))

-- ---- one record and task

one_place : (rs : List Record) (is_so : ℕ → ℕ → Type 0) (i k task other : ℕ) → IsFirstSo rs is_so i task
    → IsFirstSo rs is_so k other → i ≡ k
one_place rs is_so i k task other one another = elim (cases_order i k) [
  | inl same ↦ same
  | inr (inl less) ↦ absurd (another.first i task less one.so)
  | inr (inr more) ↦ absurd (one.first k other more another.so)
]

-- a record creates at most one task
one_task : (rs : List Record) (is_so : ℕ → ℕ → Type 0) (i task other : ℕ) → IsFirstSo rs is_so i task
    → IsFirstSo rs is_so i other → task ≡ other
one_task rs is_so i task other one another = elim (cases_order one.creation another.creation) [
  | inl same ↦
      same_Some task other (sym one.is_created ∙ ap (at created rs) same ∙ another.is_created)
  | inr (inl less) ↦ absurd (another.created_first one.creation task less one.is_created one.so)
  | inr (inr more) ↦ absurd (one.created_first another.creation other more another.is_created another.so)
]

-- nothing is both covered and preceded at one record
one_reason : (reading : Reading) (i : ℕ) (why other : Why) → IsOfRecords reading → IsReason reading i why
    → IsReason reading i other → task_of why ≡ task_of other → why ≡ other
one_reason reading i (Unfinished task) (Unfinished task') of one other same = ap Unfinished same
one_reason reading i (Predecessor task) (Predecessor task') of one other same = ap Predecessor same
one_reason reading i (Unfinished task) (Predecessor task') of one other same =
    absurd (of.apart i task task' one other)
one_reason reading i (Predecessor task) (Unfinished task') of one other same =
    absurd (of.apart i task' task other one)

one_no : (reading : Reading) (i k : ℕ) (why other : Why) → IsOfRecords reading → IsRejected reading i why
    → IsRejected reading k other → No i why ≡ No k other
one_no reading i k why other of one another =
    here
    (one_place reading.records _ i k (task_of why) (task_of other) one.unfinished another.unfinished) another
  where
    here : i ≡ k → IsRejected reading k other → No i why ≡ No k other
    here same there =
        let at_i : IsRejected reading i other = subst (λ n. IsRejected reading n other) (sym same) there in
        let task : task_of why ≡ task_of other =
        one_task reading.records _ i (task_of why) (task_of other) one.unfinished at_i.unfinished in
        ap (λ n. No n why) same
        ∙ ap (No k) (one_reason reading i why other of one.reason at_i.reason task)

-- ---- one cause

-- two causes with one number, of which no version of the file has both
data AreRivals (cause other : Cause) : Type 0 where
  moved_or_gap : cause ≡ Moved → other ≡ TurnGap → AreRivals cause other
  nested_or_nesting : cause ≡ NestedParallel → other ≡ RegionNesting → AreRivals cause other

one_rival : (first cause other : Cause) → AreRivals first cause → AreRivals first other → cause ≡ other
one_rival first cause other (moved_or_gap is gap) (moved_or_gap is' gap') = gap ∙ sym gap'
one_rival first cause other (moved_or_gap is gap) (nested_or_nesting is' nesting) =
    let number = ap cause_number (sym is ∙ is') in absurd (omega (arith, number))
one_rival first cause other (nested_or_nesting is nesting) (moved_or_gap is' gap) =
    let number = ap cause_number (sym is ∙ is') in absurd (omega (arith, number))
one_rival first cause other (nested_or_nesting is nesting) (nested_or_nesting is' nesting') =
    nesting ∙ sym nesting'

-- the causes with one number
data IsNumbered (cause other : Cause) : Type 0 where
  same_cause : cause ≡ other → IsNumbered cause other
  rivals : AreRivals cause other → IsNumbered cause other
  rivals_back : AreRivals other cause → IsNumbered cause other

-- the cause with a number: for 5 it is Moved, for 9 NestedParallel
abbrev numbered : List Cause
numbered =
    SeqGap ∷ SeqGap ∷ CreatedTwice ∷ Rootless ∷ NotCurrent ∷ Moved ∷ StatusOrder ∷ RegionOrder ∷ TeamShort
    ∷ NestedParallel ∷ DepsPlace ∷ ShareWrong ∷ EntryTwice ∷ LengthAhead ∷ LengthBack ∷ NoOrder ∷ TargetTask
    ∷ []

abbrev of_number : ℕ → Cause
of_number n = get_or numbered n SeqGap

number_tells : (cause : Cause)
    → (cause ≡ of_number (cause_number cause)) ⊎ AreRivals (of_number (cause_number cause)) cause
number_tells TurnGap = inr (moved_or_gap refl refl)
number_tells RegionNesting = inr (nested_or_nesting refl refl)
number_tells _ = inl refl

one_number : (cause other : Cause) → cause_number cause ≡ cause_number other → IsNumbered cause other
one_number cause other same = elim (number_tells cause) [
  | inl is ↦ elim (number_tells other) [
    | inl is_too ↦ same_cause (is ∙ ap of_number same ∙ sym is_too)
    | inr rival ↦ rivals (subst (λ c. AreRivals c other) (sym (is ∙ ap of_number same)) rival)
  ]
  | inr rival ↦ elim (number_tells other) [
    | inl is ↦ rivals_back (subst (λ c. AreRivals c cause) (sym (is ∙ ap of_number (sym same))) rival)
    | inr rival_too ↦
        same_cause
        (one_rival (of_number (cause_number cause)) cause other rival
        (subst (λ c. AreRivals c other) (ap of_number (sym same)) rival_too))
  ]
]

-- of two such causes only one is shown
abbrev ShowsOne : Reading → Type 0
ShowsOne reading =
    (i k : ℕ) (cause other : Cause) → AreRivals cause other → reading.shows i cause → reading.shows k other
    → ⊥

one_least : (reading : Reading) (i k : ℕ) (cause : Cause) → IsLeastShown reading i cause
    → IsLeastShown reading k cause → i ≡ k
one_least reading i k cause one another = elim (cases_order i k) [
  | inl same ↦ same
  | inr (inl less) ↦ absurd (another.first i less one.shown)
  | inr (inr more) ↦ absurd (one.first k more another.shown)
]

one_malformed : (reading : Reading) (i k : ℕ) (cause other : Cause) → ShowsOne reading
    → IsLeastShown reading i cause → IsLeastShown reading k other → Malformed i cause ≡ Malformed k other
one_malformed reading i k cause other shows one another =
    elim (cases_order (cause_number cause) (cause_number other)) [
      | inl same ↦ by (one_number cause other same)
      | inr (inl less) ↦ absurd (another.least i cause less one.shown)
      | inr (inr more) ↦ absurd (one.least k other more another.shown)
    ]
  where
    by : IsNumbered cause other → Malformed i cause ≡ Malformed k other
    by (same_cause same) =
        let there : IsLeastShown reading k cause = subst (IsLeastShown reading k) (sym same) another in
        ap (λ n. Malformed n cause) (one_least reading i k cause one there) ∙ ap (Malformed k) same
    by (rivals are) = absurd (shows i k cause other are one.shown another.shown)
    by (rivals_back are) = absurd (shows k i other cause are another.shown one.shown)

-- ---- one verdict

one_verdict : (reading : Reading) (verdict other : Verdict) → IsOfRecords reading → ShowsOne reading
    → IsVerdictBy reading verdict → IsVerdictBy reading other → verdict ≡ other
one_verdict reading (Yes order) (Yes order') of shows one another =
    ap Yes
    (one_order reading.records order order' one.linearization another.linearization one.greedy another.greedy)
one_verdict reading (Yes order) (No i why) of shows one another =
    absurd (one.finished i (task_of why) another.unfinished.so)
one_verdict reading (Yes order) (Malformed i cause) of shows one another =
    absurd (one.well_formed i cause another.shown)
one_verdict reading (No i why) (Yes order) of shows one another =
    absurd (another.finished i (task_of why) one.unfinished.so)
one_verdict reading (No i why) (No k why') of shows one another = one_no reading i k why why' of one another
one_verdict reading (No i why) (Malformed k cause) of shows one another =
    absurd (one.well_formed k cause another.shown)
one_verdict reading (Malformed i cause) (Yes order) of shows one another =
    absurd (another.well_formed i cause one.shown)
one_verdict reading (Malformed i cause) (No k why) of shows one another =
    absurd (another.well_formed i cause one.shown)
one_verdict reading (Malformed i cause) (Malformed k cause') of shows one another =
    one_malformed reading i k cause cause' shows one another

-- in version 1 no record gives turns, and from version 2 on each at which a task runs next does
moved_or_gapped : (version : ℕ) (rs : List Record) → IsTraceOf version rs → (i k : ℕ)
    → HasCause rs i Moved → HasCause rs k TurnGap → ⊥
moved_or_gapped version rs trace i k (moved (task, j, explicit, starts, below, before, apart, none)) gap =
    elim (first_or_told version rs trace) [
      | inl first ↦ free_of_gaps rs (first_version_tells_none rs first) k gap
      | inr told ↦ starts_told rs i task told starts none
    ]

-- and no region lies inside another in a version where each may
nested_or_misnested : (version : ℕ) (rs : List Record) → IsTraceOf version rs → (i k : ℕ)
    → HasCause rs i NestedParallel → HasCause rs k RegionNesting → ⊥
nested_or_misnested version rs trace i k (nested_parallel nested) (region_nesting misnested) =
    let flat = nests_all rs (version == 3) i trace.nesting (nested_within rs i nested) in
    let nests = nests_all rs (version == 3) k trace.nesting (misnested_within rs k misnested) in
    false≢true (sym (flat_nested rs i nested) ∙ flat ∙ sym nests ∙ misnested_nests rs k misnested)

-- what a reading shows of these causes the records have
version_shows_one : (version : ℕ) (reading : Reading) → IsTraceOf version reading.records
    → ((i : ℕ) → reading.shows i Moved → HasCause reading.records i Moved)
    → ((i : ℕ) → reading.shows i TurnGap → HasCause reading.records i TurnGap)
    → ((i : ℕ) → reading.shows i NestedParallel → HasCause reading.records i NestedParallel)
    → ((i : ℕ) → reading.shows i RegionNesting → HasCause reading.records i RegionNesting)
    → ShowsOne reading
version_shows_one version reading trace has_moved has_gap has_nested has_nesting i k cause other
    (moved_or_gap moves gap) one another =
    moved_or_gapped version reading.records trace i k (has_moved i (subst (reading.shows i) moves one))
    (has_gap k (subst (reading.shows k) gap another))
version_shows_one version reading trace has_moved has_gap has_nested has_nesting i k cause other
    (nested_or_nesting nested nesting) one another =
    nested_or_misnested version reading.records trace i k (has_nested i (subst (reading.shows i) nested one))
    (has_nesting k (subst (reading.shows k) nesting another))

pub one_by_task : (version : ℕ) (rs : List Record) (verdict other : Verdict) → IsTraceOf version rs
    → IsVerdictBy (by_task rs) verdict → IsVerdictBy (by_task rs) other → verdict ≡ other
one_by_task version rs verdict other trace one another =
    one_verdict (by_task rs) verdict other (of_tasks rs)
    (version_shows_one version (by_task rs) trace (λ i is. is) (λ i is. is) (λ i is. is) (λ i is. is)) one
    another

pub one_by_file : (version : ℕ) (rs : List Record) (verdict other : Verdict) → IsTraceOf version rs
    → IsVerdictBy (by_file rs) verdict → IsVerdictBy (by_file rs) other → verdict ≡ other
one_by_file version rs verdict other trace one another =
    one_verdict (by_file rs) verdict other (of_file rs)
    (version_shows_one version (by_file rs) trace (λ i is. is) (λ i is. is) (λ i is. is) (λ i is. is)) one
    another
