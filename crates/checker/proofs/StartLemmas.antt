-- Which predecessors are finished where a task starts.
use Rattle.std.proofs.Common.{cond, ◌≡◌, ◌∙◌, ℕ, ◌<◌, ◌≤◌, ◌+◌, ◌^◌, Bool, List, length, get_or, Some, None}
use Rattle.std.proofs.Common.{refl, sym, ap, subst, arith, inl, inr, true, false}
use Rattle.std.proofs.lemmas.Bool.{false≢true, cases_eq, cases_lt}
use Rattle.std.proofs.lemmas.Option.{none-some, same_Some, some_pair_parts, slice_get_within}
use Rattle.std.proofs.lemmas.Option.{slice_get-get_or}
use Rattle.std.proofs.lemmas.List.{length-set, get_or-set_same, get_or-set_other}
use Rattle.std.proofs.lemmas.List.Sums.{count_by-le-length}
use Rattle.std.proofs.Math.ListN.{set}
use Rattle.std.specs.Prelude.{slice_get, slice_index, is_some}
use Rattle.ompt_events.specs.declared.records.Record.{Record}
use Rattle.ompt_events.specs.declared.records.Part.{Part}
use Rattle.ompt_events.specs.declared.records.Part.TheVariants.{Whole, Body, Event}
use Rattle.ompt_events.specs.Records.{begun_turn, finish}
use Rattle.ompt_events.specs.declared.cause.Cause.TheVariants.{EntryTwice, LengthAhead}
use Rattle.ompt_events.specs.Causes.{IsFreeOf, entries_in, entry_twice, length_ahead, entry, ledger_length}
use Rattle.ompt_events.specs.Causes.{known_after}
use Rattle.ompt_events.specs.Places.{at, seen_at}
use Rattle.ompt_events.specs.HappensBefore.{IsFinishing}
use Rattle.ompt_events.specs.Completion.{IsPartFinished, IsFinished, IsCompleteAt, CountsAt, StartsTask}
use Rattle.index_tables.specs.Numbering.{AreApart}
use Rattle.credit_ledger.specs.TraceEntries.{IsDone}
use Rattle.wait_coverage.specs.Done.{IsDoneFrom, AreOwnLengths}
use Rattle.checker.specs.Schedule.{first_started}
use Rattle.checker.proofs.ScheduleLemmas.{first_begun_starts}
use Rattle.checker.specs.Starts.{IsBound, AreStartsBelow, StartsAt}

pub done_from : (rs : List Record) (tasks own : List ℕ) (index task : ℕ) → AreOwnLengths rs tasks own
    → slice_get tasks index ≡ Some task → IsDoneFrom rs task (slice_index own index)
done_from rs tasks own index task are is =
    let inside = slice_get_within tasks index task is in
    let all = are.all in
    are.each index task (slice_index own index) is (slice_get-get_or own index 0 (omega (arith, inside, all)))

-- ---- what counts where a task starts

part_to : (rs : List Record) (A B : ℕ → Type 0) (task : ℕ) (part : Part)
    → ((k : ℕ) → IsFinishing rs k → A k → B k) → IsPartFinished rs A task part → IsPartFinished rs B task part
part_to rs A B task part follows (k, is, counts) = (k, is, follows k (ap is_some is) counts)

finished_to : (rs : List Record) (A B : ℕ → Type 0) (task : ℕ) → ((k : ℕ) → IsFinishing rs k → A k → B k)
    → IsFinished rs A task → IsFinished rs B task
finished_to rs A B task follows done = elim done [
  | inl whole ↦ inl (part_to rs A B task Whole follows whole)
  | inr both ↦ inr (part_to rs A B task Body follows both.0, part_to rs A B task Event follows both.1)
]

-- what no entry at all is needed for is complete everywhere
pub complete_from_start : (rs : List Record) (i task : ℕ) → IsDone rs 0 task → IsCompleteAt rs task i
complete_from_start rs i task done =
    finished_to rs (λ k. seen_at rs k < 0) (CountsAt rs i) task (λ k there less. absurd (omega (arith, less)))
    done

pub bound_by : (rs : List Record) (i bound : ℕ)
    → ((k : ℕ) → IsFinishing rs k → CountsAt rs i k → seen_at rs k < bound)
    → ((k : ℕ) → IsFinishing rs k → seen_at rs k < bound → CountsAt rs i k) → IsBound rs i bound
bound_by rs i bound to back task = (
  finished_to rs (CountsAt rs i) (λ k. seen_at rs k < bound) task to,
  finished_to rs (λ k. seen_at rs k < bound) (CountsAt rs i) task back,
)

-- two records don't make one entry
same_entry : (rs : List Record) (i k : ℕ) → IsFreeOf rs EntryTwice → IsFinishing rs i → IsFinishing rs k
    → seen_at rs k ≡ seen_at rs i → k ≡ i
same_entry rs i k once here there same = elim (cases_lt k i) [
  | inl less ↦ absurd (once i (entry_twice (k, less, there, here, same)))
  | inr more ↦ elim (cases_lt i k) [
    | inl less ↦ absurd (once k (entry_twice (i, less, here, there, sym same)))
    | inr at_most ↦ omega (arith, more, at_most)
  ]
]

pub bound_finishing : (rs : List Record) (i : ℕ) → IsFreeOf rs EntryTwice → IsFinishing rs i → StartsTask rs i
    → IsBound rs i (seen_at rs i + 1)
bound_finishing rs i once here starts = bound_by rs i (seen_at rs i + 1)
    (λ k there counts. elim counts [
      | inl less ↦ omega (arith, less)
      | inr own ↦ let same = ap (seen_at rs) own.0 in omega (arith, same)
    ])
    (λ k there less. elim (cases_lt (seen_at rs k) (seen_at rs i)) [
      | inl below ↦ inl below
      | inr more ↦ inr (same_entry rs i k once here there (omega (arith, less, more)), starts)
    ])

pub bound_other : (rs : List Record) (i : ℕ) → (IsFinishing rs i → ⊥) → IsBound rs i (seen_at rs i)
bound_other rs i not_here = bound_by rs i (seen_at rs i)
    (λ k there counts. elim counts [
      | inl less ↦ less
      | inr own ↦ absurd (not_here (let P : ℕ → Type 0 = IsFinishing rs in subst P own.0 there))
    ])
    (λ k there less. inl less)

-- where nothing starts only the entries below count
pub bound_still : (rs : List Record) (i : ℕ) → (StartsTask rs i → ⊥) → IsBound rs i (seen_at rs i)
bound_still rs i no_start = bound_by rs i (seen_at rs i)
    (λ k there counts. elim counts [ inl less ↦ less | inr own ↦ absurd (no_start own.1) ])
    (λ k there less. inl less)

-- an entry is below the length that the ledger gets
pub entry_small : (rs : List Record) (i : ℕ) → IsFreeOf rs LengthAhead → IsFinishing rs i → length rs ≤ 2 ^ 22
    → seen_at rs i + 1 < 2 ^ 32
entry_small rs i reached here few = elim (cases_lt (seen_at rs i) (entries_in rs)) [
  | inl less ↦
      let low : entries_in rs ≤ length rs = count_by-le-length (λ (r : Record). is_some (finish r.body)) rs in
      omega (arith, less, low, few)
  | inr more ↦ absurd (reached i (length_ahead (entry here more)))
]

-- ---- where tasks start

-- a task that first begins there starts there
pub starts_more : (rs : List Record) (n index own : ℕ) (tasks starts : List ℕ) → n < length rs
    → AreApart tasks → slice_get tasks index ≡ Some own → at begun_turn rs n ≡ Some (own, 0)
    → slice_index starts index ≡ length rs → AreStartsBelow rs n tasks starts
    → AreStartsBelow rs (n + 1) tasks (set starts index n)
starts_more rs n index own tasks starts within once is says unset are = record {
  all = length-set starts index n ∙ are.all;
  low = λ other inside. elim (cases_eq other index) [
    | inl same ↦ let here = set_here other same in inl (omega (arith, here))
    | inr apart ↦
        let kept = set_apart other apart in elim (are.low other (rw (length-set starts index n) at inside)) [
          | inl less ↦ inl (omega (arith, kept, less))
          | inr none ↦ inr (kept ∙ none)
        ]
  ];
  begins = λ other task there below. elim (cases_eq other index) [
    | inl same ↦
        let task_is = same_Some own task (sym is ∙ ap (slice_get tasks) (sym same) ∙ there) in
        ap (at begun_turn rs) (set_here other same) ∙ says ∙ ap (λ t. Some (t, 0)) task_is
    | inr apart ↦
        let kept = set_apart other apart in
        ap (at begun_turn rs) kept
        ∙ are.begins other task there (low_or_unset other task there (omega (arith, below, kept)))
  ];
  first = λ other task k there below begins. elim (cases_eq other index) [
    | inl same ↦ elim (cases_eq k n) [
      | inl last ↦ let here = set_here other same in omega (arith, here, last)
      | inr differ ↦
          let low = are.first other task k there (omega (arith, below, differ)) begins in
          let none = ap (slice_index starts) same ∙ unset in
          omega (arith, low, none, below, within)
    ]
    | inr apart ↦ elim (cases_eq k n) [
      | inl last ↦
          absurd
          (apart
          (once other index task there
          (is
          ∙ ap Some
          (some_pair_parts own task 0 0
          (sym says ∙ ap (at begun_turn rs) (sym last) ∙ begins)).0)))
      | inr differ ↦
          let kept = set_apart other apart in
          let low = are.first other task k there (omega (arith, below, differ)) begins in
          omega (arith, kept, low)
    ]
  ];
}
  where
    set_here : (other : ℕ) → other ≡ index → slice_index (set starts index n) other ≡ n
    set_here other same =
        let inside = slice_get_within tasks index own is in
        let all = are.all in
        ap (λ k. get_or (set starts index n) k 0) same
        ∙ get_or-set_same starts index n 0 (omega (arith, inside, all))

    set_apart : (other : ℕ) → (other ≡ index → ⊥)
        → slice_index (set starts index n) other ≡ slice_index starts other
    set_apart other apart = get_or-set_other starts index other n 0 apart

    low_or_unset : (other task : ℕ) → slice_get tasks other ≡ Some task → slice_index starts other < n + 1
        → slice_index starts other < n
    low_or_unset other task there below =
        let inside = slice_get_within tasks other task there in
        let all = are.all in
        elim (are.low other (omega (arith, inside, all))) [
          | inl less ↦ less
          | inr none ↦ absurd (omega (arith, none, below, within))
        ]

starts_kept : (rs : List Record) (n : ℕ) (tasks starts : List ℕ) → n < length rs
    → AreStartsBelow rs n tasks starts
    → ((index task : ℕ) → slice_get tasks index ≡ Some task → at begun_turn rs n ≡ Some (task, 0)
    → slice_index starts index ≤ n)
    → AreStartsBelow rs (n + 1) tasks starts
starts_kept rs n tasks starts within are here = record {
  all = are.all;
  low =
      λ index inside.
      elim (are.low index inside) [ inl less ↦ inl (omega (arith, less)) | inr none ↦ inr none ];
  begins = λ index task there below.
      let inside = slice_get_within tasks index task there in
      let all = are.all in
      elim (are.low index (omega (arith, inside, all))) [
        | inl less ↦ are.begins index task there less
        | inr none ↦ absurd (omega (arith, none, below, within))
      ];
  first = λ index task k there below begins. elim (cases_eq k n) [
    | inl last ↦
        let low = here index task there (ap (at begun_turn rs) (sym last) ∙ begins) in
        omega (arith, low, last)
    | inr differ ↦ are.first index task k there (omega (arith, below, differ)) begins
  ];
}

-- one that has begun already does not
pub starts_still : (rs : List Record) (n index own : ℕ) (tasks starts : List ℕ) → n < length rs
    → AreApart tasks → slice_get tasks index ≡ Some own → at begun_turn rs n ≡ Some (own, 0)
    → (slice_index starts index ≡ length rs → ⊥) → AreStartsBelow rs n tasks starts
    → AreStartsBelow rs (n + 1) tasks starts
starts_still rs n index own tasks starts within once is says noted are =
    starts_kept rs n tasks starts within are (λ other task there begins.
    let same =
    once other index task there (is ∙ ap Some (some_pair_parts own task 0 0 (sym says ∙ begins)).0) in
    let inside = slice_get_within tasks index own is in
    let all = are.all in
    elim (are.low index (omega (arith, inside, all))) [
      | inl less ↦ let equal = ap (slice_index starts) same in omega (arith, less, equal)
      | inr none ↦ absurd (noted none)
    ])

-- where no task begins turn 0 nothing changes
pub starts_other : (rs : List Record) (n : ℕ) (tasks starts : List ℕ) → n < length rs
    → at first_started rs n ≡ None → AreStartsBelow rs n tasks starts → AreStartsBelow rs (n + 1) tasks starts
starts_other rs n tasks starts within none are = starts_kept rs n tasks starts within are
    (λ other task there begins. absurd (none-some task (sym none ∙ first_begun_starts rs n task begins)))

-- the length that decides what counts where a task starts: the one that is known after the record
pub bound_start : (rs : List Record) (tasks : List ℕ) (i index : ℕ) → IsFreeOf rs EntryTwice
    → StartsAt rs tasks i index → IsBound rs i (known_after rs i)
bound_start rs tasks i index once starts = of (is_some (at finish rs i)) refl
  where
    P : Bool → Type 0
    P b = IsBound rs i (cond {A = ℕ} b (seen_at rs i + 1) (seen_at rs i))

    of : (b : Bool) → is_some (at finish rs i) ≡ b → IsBound rs i (known_after rs i)
    of true e = subst P (sym e) (bound_finishing rs i once e (starts.0, starts.2, starts.3))
    of false e = subst P (sym e) (bound_other rs i (λ here. false≢true (sym e ∙ here)))

pub known_small : (rs : List Record) (i : ℕ) → IsFreeOf rs LengthAhead → length rs ≤ 2 ^ 22
    → known_after rs i < 2 ^ 32
known_small rs i reached few = of (is_some (at finish rs i)) refl
  where
    P : Bool → Type 0
    P b = cond {A = ℕ} b (seen_at rs i + 1) (seen_at rs i) < 2 ^ 32

    of : (b : Bool) → is_some (at finish rs i) ≡ b → known_after rs i < 2 ^ 32
    of true e = subst P (sym e) (entry_small rs i reached e few)
    of false e = subst P (sym e) (elim (cases_lt (entries_in rs) (seen_at rs i)) [
      | inl more ↦ absurd (reached i (length_ahead (ledger_length more)))
      | inr low ↦
          let most : entries_in rs ≤ length rs =
          count_by-le-length (λ (r : Record). is_some (finish r.body)) rs in
          omega (arith, low, most, few)
    ])
