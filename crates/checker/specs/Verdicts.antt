-- What each verdict says of a trace, by a reading of it.
use Rattle.std.specs.Prelude.{ℕ, ◌≡◌, ◌<◌, List, Some, length}
use Rattle.ompt_events.specs.declared.records.Record.{Record}
use Rattle.ompt_events.specs.declared.cause.Cause.{Cause}
use Rattle.ompt_events.specs.Records.{created}
use Rattle.ompt_events.specs.Places.{at}
use Rattle.ompt_events.specs.CauseNames.{cause_number}
use Rattle.ompt_events.specs.Linearization.{IsLinearization, IsGreedy}
use Rattle.ompt_events.specs.Completion.{IsCompleteIn, IsCompleteAt}
use Rattle.checker.specs.Readings.{Reading, by_task, IsPrecededBy, IsRequiredBy}
use Rattle.checker.specs.declared.verdict.Verdict.{Verdict}
use Rattle.checker.specs.declared.verdict.Verdict.TheVariants.{Yes, No, Malformed}
use Rattle.checker.specs.declared.verdict.Why.{Why}
use Rattle.checker.specs.declared.verdict.Why.TheVariants.{Unfinished, Predecessor}

-- ---- causes

-- no record shows a cause
abbrev pub ShowsNone : Reading → Type 0
ShowsNone reading = (i : ℕ) (cause : Cause) → reading.shows i cause → ⊥

-- of the causes that records show, this is the one with the least number, at the first record that shows it
pub record IsLeastShown (reading : Reading) (i : ℕ) (cause : Cause) : Type 0 where
  pub within : i < length reading.records
  pub shown : reading.shows i cause
  pub first : (k : ℕ) → k < i → reading.shows k cause → ⊥
  pub least : (k : ℕ) (other : Cause) → cause_number other < cause_number cause → reading.shows k other → ⊥

-- ---- what must be complete

-- all that must be complete at i is complete, by what the record there has seen
abbrev pub AreComplete : Reading → ℕ → Type 0
AreComplete reading i = (task : ℕ) → IsRequiredBy reading i task → IsCompleteAt reading.records task i

-- in every order that the records allow, every task that must be complete at a record is complete there
abbrev pub IsAlwaysComplete : Reading → Type 0
IsAlwaysComplete reading =
    (order : List ℕ) → IsLinearization reading.records order → (i task : ℕ) → IsRequiredBy reading i task
    → IsCompleteIn reading.records order task i

-- a task that must be complete at i isn't, by what the record there has seen
pub record IsUnfinished (reading : Reading) (i task : ℕ) : Type 0 where
  pub required : IsRequiredBy reading i task
  pub incomplete : IsCompleteAt reading.records task i → ⊥

-- some order that the records allow leaves a task incomplete at i that must be complete there
pub record IsMissed (reading : Reading) (i task : ℕ) : Type 0 where
  pub required : IsRequiredBy reading i task
  pub order : List ℕ
  pub linearization : IsLinearization reading.records order
  pub incomplete : IsCompleteIn reading.records order task i → ⊥

-- a wait that covers the task ends at i, and the task isn't complete there
abbrev pub IsCoveredUnfinishedBy : Reading → ℕ → ℕ → Type 0
IsCoveredUnfinishedBy reading i task = reading.covers i task × (IsCompleteAt reading.records task i → ⊥)

-- the task must be complete at i as a predecessor, and isn't
abbrev pub IsPredecessorUnfinishedBy : Reading → ℕ → ℕ → Type 0
IsPredecessorUnfinishedBy reading i task =
    IsPrecededBy reading i task × (IsCompleteAt reading.records task i → ⊥)

-- the first record in file order with such a task, and of its tasks the one that was created first in file
-- order
pub record IsFirstSo (rs : List Record) (is_so : ℕ → ℕ → Type 0) (i task : ℕ) : Type 0 where
  pub so : is_so i task
  pub first : (k other : ℕ) → k < i → is_so k other → ⊥
  pub creation : ℕ
  pub is_created : at created rs creation ≡ Some task
  pub created_first : (k other : ℕ) → k < creation → at created rs k ≡ Some other → is_so i other → ⊥

-- the first unfinished task, and the first task that some order misses
abbrev pub IsFirstUnfinished : Reading → ℕ → ℕ → Type 0
IsFirstUnfinished reading = IsFirstSo reading.records (IsUnfinished reading)

abbrev pub IsFirstMissed : Reading → ℕ → ℕ → Type 0
IsFirstMissed reading = IsFirstSo reading.records (IsMissed reading)

-- ---- verdicts

-- what a yes with this order says
pub record IsApproved (reading : Reading) (order : List ℕ) : Type 0 where
  pub well_formed : ShowsNone reading
  pub linearization : IsLinearization reading.records order
  pub greedy : IsGreedy reading.records order
  pub finished : (i task : ℕ) → IsUnfinished reading i task → ⊥
  pub always_complete : IsAlwaysComplete reading

-- why the task must be complete at i: the wait that ends there covers it, or it is a predecessor of what
-- starts or is complete there
abbrev pub IsReason : Reading → ℕ → Why → Type 0
IsReason reading i (Unfinished task) = reading.covers i task
IsReason reading i (Predecessor task) = IsPrecededBy reading i task

abbrev pub task_of : Why → ℕ
task_of (Unfinished task) = task
task_of (Predecessor task) = task

-- what a no at a record says, with the task that is unfinished there
pub record IsRejected (reading : Reading) (i : ℕ) (why : Why) : Type 0 where
  pub well_formed : ShowsNone reading
  pub unfinished : IsFirstUnfinished reading i (task_of why)
  pub missed : IsFirstMissed reading i (task_of why)
  pub reason : IsReason reading i why

-- the verdict is that of the trace by this reading
abbrev pub IsVerdictBy : Reading → Verdict → Type 0
IsVerdictBy reading (Yes order) = IsApproved reading order
IsVerdictBy reading (No i why) = IsRejected reading i why
IsVerdictBy reading (Malformed i cause) = IsLeastShown reading i cause

-- the verdict is that of the trace, by each task's own order
abbrev pub IsVerdict : List Record → Verdict → Type 0
IsVerdict rs = IsVerdictBy (by_task rs)
