-- Which tasks start, and which taskwaits are complete, before one of their predecessors is finished.
use Rattle.std.specs.Prelude.{ℕ, ◌≡◌, ◌<◌, ◌≤◌, ◌↔◌, ◌⊎◌, List, length, Option, Some, None, MatchOption}
use Rattle.std.specs.Prelude.{◌≢◌, All, Contains, slice_get, slice_index}
use Rattle.std.specs.List.{AllPairs}
use Rattle.ompt_events.specs.declared.records.Record.{Record}
use Rattle.ompt_events.specs.Records.{created, begun_turn}
use Rattle.ompt_events.specs.Places.{at}
use Rattle.ompt_events.specs.Tree.{IsExplicit}
use Rattle.ompt_events.specs.HappensBefore.{IsStart}
use Rattle.ompt_events.specs.Dependences.{IsPredecessor}
use Rattle.ompt_events.specs.Completion.{IsCompleteAt}
use Rattle.ompt_events.specs.declared.cause.Cause.TheVariants.{EntryTwice, LengthAhead}
use Rattle.ompt_events.specs.Causes.{IsFreeOf}
use Rattle.task_tree.specs.Runs.{RunView, IsRun}
use Rattle.task_tree.specs.Own.{OwnView, IsOwn}
use Rattle.task_tree.specs.Families.{IsOwnOf}
use Rattle.depend_edges.specs.Edges.{ArePredecessorLengths}
use Rattle.wait_coverage.specs.Done.{AreOwnLengths}
use Rattle.credit_ledger.specs.TraceEntries.{IsDone}
use Rattle.checker.specs.declared.starts.Late.{Late}
use Rattle.checker.specs.Readings.{by_task, IsPrecededBy}
use Rattle.checker.specs.Verdicts.{IsPredecessorUnfinishedBy}

-- the task must be complete at i as a predecessor, and isn't
abbrev pub IsPredecessorUnfinished : List Record → ℕ → ℕ → Type 0
IsPredecessorUnfinished rs = IsPredecessorUnfinishedBy (by_task rs)

-- all such tasks are complete at i
abbrev pub AreReady : List Record → ℕ → Type 0
AreReady rs i = (task : ℕ) → IsPrecededBy (by_task rs) i task → IsCompleteAt rs task i

-- of the tasks that are late at i this one was created first in file order
pub record IsFirstLateAt (rs : List Record) (i task : ℕ) : Type 0 where
  pub late : IsPredecessorUnfinished rs i task
  pub creation : ℕ
  pub is_created : at created rs creation ≡ Some task
  pub created_first : (k other : ℕ) → k < creation → at created rs k ≡ Some other
      → IsPredecessorUnfinished rs i other → ⊥

-- ---- what the search knows

-- the entries below this length decide which tasks are complete at i
abbrev pub IsBound : List Record → ℕ → ℕ → Type 0
IsBound rs i bound = (task : ℕ) → IsCompleteAt rs task i ↔ IsDone rs bound task

-- by index of each task the first of the first n places at which its turn 0 begins, or the number of
-- records
pub record AreStartsBelow (rs : List Record) (n : ℕ) (tasks starts : List ℕ) : Type 0 where
  pub all : length starts ≡ length tasks
  pub low : (index : ℕ) → index < length starts
      → (slice_index starts index < n) ⊎ (slice_index starts index ≡ length rs)
  pub begins : (index task : ℕ) → slice_get tasks index ≡ Some task → slice_index starts index < n
      → at begun_turn rs (slice_index starts index) ≡ Some (task, 0)
  pub first : (index task k : ℕ) → slice_get tasks index ≡ Some task → k < n
      → at begun_turn rs k ≡ Some (task, 0) → slice_index starts index ≤ k

-- the same for all places
abbrev pub AreStarts : List Record → List ℕ → List ℕ → Type 0
AreStarts rs tasks starts = AreStartsBelow rs (length rs) tasks starts

-- all lengths are 0
abbrev pub AreNoLengths : List ℕ → Type 0
AreNoLengths lengths = (index : ℕ) → index < length lengths → slice_index lengths index ≡ 0

-- the explicit task at this index starts at i
abbrev pub StartsAt : List Record → List ℕ → ℕ → ℕ → Type 0
StartsAt rs tasks i index =
    (task : ℕ) × (slice_get tasks index ≡ Some task) × IsExplicit rs task × IsStart rs i task

-- no explicit task starts at i
abbrev pub StartsNoneAt : List Record → ℕ → Type 0
StartsNoneAt rs i = (task : ℕ) → IsExplicit rs task → IsStart rs i task → ⊥

-- the task at the index of the run in the tasks' own order is the one whose predecessors must be complete
-- at i, and no others; the bound decides which of them are
pub record IsDependentAt (rs : List Record) (own : RunView) (i index bound : ℕ) : Type 0 where
  pub dependent : ℕ
  pub there : slice_get own.family.tasks index ≡ Some dependent
  pub same : (task : ℕ) → IsPrecededBy (by_task rs) i task ↔ IsPredecessor own.records dependent task
  pub bounds : (task : ℕ) → IsCompleteAt rs task i ↔ IsDone own.records bound task

-- no predecessor must be complete at i
abbrev pub IsPrecededByNone : List Record → ℕ → Type 0
IsPrecededByNone rs i = (task : ℕ) → IsPrecededBy (by_task rs) i task → ⊥

-- the entries below the length don't finish this predecessor of the task
abbrev pub IsUnfinishedPredecessor : List Record → ℕ → ℕ → ℕ → Type 0
IsUnfinishedPredecessor rs task bound predecessor =
    IsPredecessor rs task predecessor × (IsDone rs bound predecessor → ⊥)

-- the entries below the length finish each predecessor of the task
abbrev pub AreDoneBefore : List Record → ℕ → ℕ → Type 0
AreDoneBefore rs task bound = (predecessor : ℕ) → IsPredecessor rs task predecessor
    → IsDone rs bound predecessor

-- of the predecessors that they don't finish, this one is created first in the file; own has the file's
-- records in the tasks' own order
pub record IsFirstBehind (file own : List Record) (task bound predecessor : ℕ) : Type 0 where
  pub behind : IsUnfinishedPredecessor own task bound predecessor
  pub creation : ℕ
  pub is_created : at created file creation ≡ Some predecessor
  pub first : (k other : ℕ) → k < creation → at created file k ≡ Some other
      → IsUnfinishedPredecessor own task bound other
      → ⊥

-- the entries below the length don't finish the task, which is created at this place in the file
abbrev pub IsBehindAt : List Record → List Record → ℕ → ℕ → ℕ → Type 0
IsBehindAt file own bound task place = (IsDone own bound task → ⊥) × (at created file place ≡ Some task)

-- among the first n of some tasks
abbrev pub IsAmongFirst : List ℕ → ℕ → ℕ → Type 0
IsAmongFirst tasks n task = (k : ℕ) × (k < n) × (slice_get tasks k ≡ Some task)

-- the entries finish all of the first n of these tasks; or of those that they don't finish this one is
-- created first
abbrev pub IsFirstOf : List Record → List Record → List ℕ → ℕ → ℕ → Option Late → Type 0
IsFirstOf file own tasks bound n None = (task : ℕ) → IsAmongFirst tasks n task → IsDone own bound task
IsFirstOf file own tasks bound n (Some late) =
    IsAmongFirst tasks n late.task × IsBehindAt file own bound late.task late.place
    × ((task place : ℕ) → IsAmongFirst tasks n task → IsBehindAt file own bound task place
    → late.place ≤ place)

-- the task is among the first n of these, and the entries don't finish it
abbrev pub IsLateAmong : List Record → ℕ → List ℕ → ℕ → ℕ → Type 0
IsLateAmong own bound tasks n task = IsAmongFirst tasks n task × (IsDone own bound task → ⊥)

-- these are all of them, each once
pub record AreLateOf (own : List Record) (bound : ℕ) (tasks : List ℕ) (n : ℕ) (late : List ℕ) : Type 0 where
  pub each : All (IsLateAmong own bound tasks n) late
  pub all : (task : ℕ) → IsAmongFirst tasks n task → (IsDone own bound task → ⊥) → Contains late task
  pub apart : AllPairs (λ x y. x ≢ y) late

-- of a late task, if there is one, and another, the one that is created first
pub data IsEarlierOf (other late : Late) : Option Late → Type 0 where
  the_only : late ≡ other → IsEarlierOf other late None
  the_first : {first : Late} → late ≡ first → first.place < other.place → IsEarlierOf other late (Some first)
  the_other : {first : Late} → late ≡ other → other.place ≤ first.place → IsEarlierOf other late (Some first)

-- ---- the tables that decide it

-- the view of the tables: the run of the file, and that in the tasks' own order; by index of the task in
-- its own order the least length at which it is finished, and the greatest of the lengths of its
-- predecessors; and by index in the file where it starts, unless no task has a predecessor that an entry
-- finishes
pub record PrecedenceView : Type 0 where
  pub file : RunView
  pub own : OwnView
  pub lengths : List ℕ
  pub latest : List ℕ
  pub starts : Option (List ℕ)

-- all tables are those of the run that has these edges
pub record IsPrecedence (of_edges : RunView) (known : PrecedenceView) : Type 0 where
  pub same : of_edges ≡ known.own.run
  pub file : IsRun known.file
  pub is_own : IsOwn known.own
  pub of_file : IsOwnOf known.file.records known.own
  pub lengths : AreOwnLengths known.own.run.records known.own.run.family.tasks known.lengths
  pub latest : ArePredecessorLengths known.own.run.records known.own.run.family.tasks known.lengths
      known.latest
  pub starts : MatchOption known.starts (AreNoLengths known.latest)
      (AreStarts known.file.records known.file.family.tasks)
  pub once : IsFreeOf known.file.records EntryTwice
  pub reached : IsFreeOf known.file.records LengthAhead
