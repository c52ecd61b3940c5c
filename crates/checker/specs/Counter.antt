-- The order of all records in which one is as early as possible, and what it shows of a task.
use Rattle.std.specs.Prelude.{ℕ, ◌≡◌, ◌<◌, ◌≤◌, ◌⊎◌, ◌↔◌, ⊤, ltb, Bool, false, List, [], ◌∷◌, ◌++◌, Contains}
use Rattle.std.specs.Prelude.{Option, Some, None, MatchOption, length, slice_index}
use Rattle.std.specs.Option.{option_map_or}
use Rattle.ompt_events.specs.declared.records.Record.{Record}
use Rattle.ompt_events.specs.Places.{thread_at, seen_at}
use Rattle.ompt_events.specs.HappensBefore.{IsFinishing, HappensBefore}
use Rattle.ompt_events.specs.Linearization.{IsLinearization, IsGreedy, IsGreedyAfter}
use Rattle.ompt_events.specs.Completion.{IsCompleteIn}
use Rattle.ompt_events.specs.CauseNames.{all_causes}
use Rattle.checker.specs.Entries.{MakersView, IsLedger}
use Rattle.checker.specs.declared.verdict.Verdict.{Verdict}
use Rattle.checker.specs.declared.verdict.Verdict.TheVariants.{No}
use Rattle.checker.specs.Readings.{Reading, by_task, IsRequiredBy}
use Rattle.checker.specs.Verdicts.{ShowsNone, IsMissed, task_of}
use Rattle.checker.specs.Search.{IsClear}

-- first the records that happen before i, each time the first in file order whose predecessors are all
-- placed; then i; then the others in the same manner
pub record IsEarliestOrder (rs : List Record) (i : ℕ) (order : List ℕ) : Type 0 where
  pub before : List ℕ
  pub after : List ℕ
  pub parts : order ≡ (before ++ i ∷ []) ++ after
  pub just_before : (a : ℕ) → Contains before a ↔ HappensBefore rs a i
  pub before_greedy : IsGreedyAfter rs (λ a. HappensBefore rs a i) [] before
  pub after_greedy : IsGreedyAfter rs (λ _. ⊤) (before ++ i ∷ []) after

-- no record shows a cause, the task must be complete at i, and it isn't in this order, in which i is as
-- early as possible
pub record IsCounterOrderBy (reading : Reading) (i task : ℕ) (order : List ℕ) : Type 0 where
  pub well_formed : ShowsNone reading
  pub required : IsRequiredBy reading i task
  pub linearization : IsLinearization reading.records order
  pub incomplete : IsCompleteIn reading.records order task i → ⊥
  pub earliest : IsEarliestOrder reading.records i order

-- a record shows a cause, or no order misses the task
abbrev pub HasNoCounterOrderBy : Reading → ℕ → ℕ → Type 0
HasNoCounterOrderBy reading i task = ShowsNone reading → IsMissed reading i task → ⊥

-- the result of a search for an order that leaves the task incomplete at i: this order, or there is none
abbrev pub IsCounterBy : Reading → ℕ → ℕ → Option (List ℕ) → Type 0
IsCounterBy reading i task found =
    MatchOption found (HasNoCounterOrderBy reading i task) (IsCounterOrderBy reading i task)

-- a no has an order that leaves its task incomplete at its record; other verdicts have none
abbrev pub IsShownBy : Reading → Verdict → Option (List ℕ) → Type 0
IsShownBy reading (No i why) (Some order) = IsCounterOrderBy reading i (task_of why) order
IsShownBy reading (No i why) None = ⊥
IsShownBy reading verdict (Some order) = ⊥
IsShownBy reading verdict None = ⊤

-- such an order by each task's own order, as a trace is meant
abbrev pub IsCounterOrder : List Record → ℕ → ℕ → List ℕ → Type 0
IsCounterOrder rs = IsCounterOrderBy (by_task rs)

-- ---- what the search for it knows

-- the view of a run with the order of its records
pub record OrderedView : Type 0 where
  pub ledger : MakersView
  pub order : List ℕ

-- no cause occurs, and the order is the greedy one
pub record IsOrdered (ordered : OrderedView) : Type 0 where
  pub ledger : IsLedger ordered.ledger
  pub well_formed : IsClear ordered.ledger.run.records all_causes
  pub linearization : IsLinearization ordered.ledger.run.records ordered.order
  pub greedy : IsGreedy ordered.ledger.run.records ordered.order

-- whether the record at i is below the bound of its thread
abbrev pub is_below : List Record → List ℕ → ℕ → Bool
is_below rs bounds i = option_map_or (λ thread. ltb i (slice_index bounds thread)) (thread_at rs i) false

-- by thread a bound: just those records of the thread that are below it happen before i
pub record AreBounds (rs : List Record) (i : ℕ) (bounds : List ℕ) : Type 0 where
  pub all : (a thread : ℕ) → thread_at rs a ≡ Some thread → thread < length bounds
  pub each : (a thread : ℕ) → thread_at rs a ≡ Some thread
      → (a < slice_index bounds thread) ↔ HappensBefore rs a i

-- ---- while the bounds are found

-- there is a bound for each thread
abbrev pub HaveAllThreads : List Record → List ℕ → Type 0
HaveAllThreads rs bounds = (a thread : ℕ) → thread_at rs a ≡ Some thread → thread < length bounds

-- the record is below the bound of its thread
pub record IsBelow (rs : List Record) (bounds : List ℕ) (a : ℕ) : Type 0 where
  pub thread : ℕ
  pub is_on : thread_at rs a ≡ Some thread
  pub below : a < slice_index bounds thread

-- all that is below the bounds happens before i
abbrev pub AreAllBefore : List Record → ℕ → List ℕ → Type 0
AreAllBefore rs i bounds = (a : ℕ) → IsBelow rs bounds a → HappensBefore rs a i

-- just the earlier records of the thread of i are below
pub record AreEarlierInThread (rs : List Record) (i : ℕ) (bounds : List ℕ) : Type 0 where
  pub earlier : (a : ℕ) → a < i → thread_at rs a ≡ thread_at rs i → IsBelow rs bounds a
  pub only : (a : ℕ) → IsBelow rs bounds a → (a < i) × (thread_at rs a ≡ thread_at rs i)

-- the record makes an entry below this length
abbrev pub MakesBelow : List Record → ℕ → ℕ → Type 0
MakesBelow rs entries c = IsFinishing rs c × (seen_at rs c < entries)

-- the bounds were raised to each record with the property, and no further: just those records, and earlier
-- ones of their threads, were added below
pub record AreRaisedTo (rs : List Record) (has : ℕ → Type 0) (old new : List ℕ) : Type 0 where
  pub kept : (a : ℕ) → IsBelow rs old a → IsBelow rs new a
  pub raised : (c : ℕ) → has c → IsBelow rs new c
  pub only : (a : ℕ) → IsBelow rs new a
      → IsBelow rs old a ⊎ ((c : ℕ) × has c × (a ≤ c) × (thread_at rs a ≡ thread_at rs c))
