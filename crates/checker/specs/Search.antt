-- What the phases of a check pass on to one another.
use Rattle.std.specs.Prelude.{ℕ, ◌≡◌, ◌<◌, List, [], ◌∷◌, Contains, length}
use Rattle.ompt_events.specs.declared.records.Record.{Record}
use Rattle.ompt_events.specs.declared.cause.Cause.{Cause}
use Rattle.ompt_events.specs.declared.fault.Fault.{Fault}
use Rattle.ompt_events.specs.declared.cause.Cause.TheVariants.{NotCurrent, Moved, TurnGap, StatusOrder}
use Rattle.ompt_events.specs.declared.cause.Cause.TheVariants.{RegionOrder, NestedParallel, RegionNesting}
use Rattle.ompt_events.specs.declared.cause.Cause.TheVariants.{DepsPlace}
use Rattle.ompt_events.specs.declared.cause.Cause.TheVariants.{ShareWrong, EntryTwice}
use Rattle.ompt_events.specs.CauseNames.{all_causes, before}
use Rattle.ompt_events.specs.Causes.{ShowsNowhere}
use Rattle.ompt_events.specs.Faults.{IsShownFault}
use Rattle.ompt_events.specs.Linearization.{IsLinearization, IsGreedy}
use Rattle.task_tree.specs.Runs.{RunView, IsRun}
use Rattle.task_tree.specs.Own.{OwnView, IsOwn}
use Rattle.task_tree.specs.Families.{IsOwnOf}
use Rattle.task_states.specs.States.{StatesView, IsStates}
use Rattle.depend_edges.specs.Edges.{EdgesView}
use Rattle.teams.specs.Teams.{own_of}
use Rattle.credit_ledger.specs.TraceEntries.{HasRightEntries}
use Rattle.wait_coverage.specs.Done.{AreDone}
use Rattle.wait_coverage.specs.Known.{KnownView, AreCreditLengths}
use Rattle.checker.specs.Readings.{Reading, IsPrecededBy}
use Rattle.checker.specs.Verdicts.{task_of, IsReason, IsFirstUnfinished}
use Rattle.checker.specs.declared.verdict.Why.{Why}

-- the trace shows none of these causes
abbrev pub IsClear : List Record → List Cause → Type 0
IsClear rs causes = (cause : Cause) → Contains causes cause → ShowsNowhere rs cause

-- the fault is the least cause that the trace shows, at its first record, or out of memory
abbrev pub IsLeastFound : List Record → Fault → Type 0
IsLeastFound rs fault = IsShownFault rs all_causes fault

-- ---- what is made of a run

-- the causes that taking tasks through their states shows
abbrev pub state_causes : List Cause
state_causes = NotCurrent ∷ Moved ∷ TurnGap ∷ StatusOrder ∷ RegionOrder ∷ []

-- those that nesting, dependences and claims show
abbrev pub edge_causes : List Cause
edge_causes = NestedParallel ∷ RegionNesting ∷ DepsPlace ∷ ShareWrong ∷ []

-- the states of the run's tasks; the run shows none of these causes
pub record AreStatesOf (run : RunView) (own : OwnView) (states : StatesView) : Type 0 where
  pub of_run : states.run ≡ run
  pub of_own : states.regions.own ≡ own
  pub are : IsStates states
  pub clear : IsClear run.records state_causes

-- the edges between the run's tasks; the run shows none of those causes
pub record AreEdgesOf (run : RunView) (own : OwnView) (edges : EdgesView) : Type 0 where
  pub of_run : edges.run ≡ own.run
  pub clear : IsClear run.records edge_causes

-- the least lengths at which the run's tasks are finished; if the entries are right, also the least at which
-- their credit is held
pub record IsKnownOf (own : OwnView) (known : KnownView) : Type 0 where
  pub of_own : own_of known.done.teams ≡ own
  pub done : AreDone known.done
  pub credit : HasRightEntries own.run.records → AreCreditLengths known.done

-- ---- what is known once only order, ledger and TargetTask may show a cause

-- the trace shows none of the causes before EntryTwice
pub record IsSoundRun (run : RunView) : Type 0 where
  pub is_run : IsRun run
  pub clear : IsClear run.records (before EntryTwice)

-- the view of a trace: its run, and that in the tasks' own order
pub record SoundView : Type 0 where
  pub run : RunView
  pub own : OwnView

-- both are of one trace
pub record AreOneTrace (run : RunView) (own : OwnView) : Type 0 where
  pub is_own : IsOwn own
  pub of_file : IsOwnOf run.records own

pub record IsSoundView (view : SoundView) : Type 0 where
  pub sound : IsSoundRun view.run
  pub one : AreOneTrace view.run view.own

-- ---- the first violation

-- a wait that covers a task ends at one of the records, and at none at which a task must be complete as a
-- predecessor
pub record IsOfRecords (reading : Reading) : Type 0 where
  pub within : (i task : ℕ) → reading.covers i task → i < length reading.records
  pub apart : (i task other : ℕ) → reading.covers i task → IsPrecededBy reading i other → ⊥

-- the first record at which a required task is unfinished, with that task and the reason
pub record IsFirstViolation (reading : Reading) (i : ℕ) (why : Why) : Type 0 where
  pub unfinished : IsFirstUnfinished reading i (task_of why)
  pub reason : IsReason reading i why

-- ---- what is known where no cause occurs

-- the view of a trace without a cause
pub record ClearView : Type 0 where
  pub run : RunView
  pub own : OwnView
  pub order : List ℕ

-- the trace shows no cause, and the order of its records is the greedy one
pub record IsClearView (view : ClearView) : Type 0 where
  pub is_run : IsRun view.run
  pub one : AreOneTrace view.run view.own
  pub well_formed : IsClear view.run.records all_causes
  pub linearization : IsLinearization view.run.records view.order
  pub greedy : IsGreedy view.run.records view.order
