-- The walk along a thread: which tasks it runs (OpenMP 5.2, 12.9: task scheduling).
use Rattle.std.specs.Prelude.{ℕ, ◌≡◌, ◌≢◌, ◌==◌, Bool, List, [], ◌∷◌, Option, Some, None, if◌then◌else◌}
use Rattle.std.specs.Prelude.{filter, fold, take, drop, slice_get, get_or}
use Rattle.ompt_events.specs.declared.records.Record.{Record}
use Rattle.ompt_events.specs.declared.records.Body.{Body}
use Rattle.ompt_events.specs.declared.records.Body.TheVariants.{ImplicitTask, TaskSchedule}
use Rattle.ompt_events.specs.declared.names.Endpoint.TheVariants.{Begin, End}
use Rattle.ompt_events.specs.Names.{demands_next}
use Rattle.ompt_events.specs.Records.{running, ended_root, started, wait_completed}
use Rattle.ompt_events.specs.Tree.{IsRoot, IsCreatedAt}

-- the walk of a thread: its open roots, the innermost first; for each of them the task that ran when it
-- began, if one did; and the task that runs
pub record Walk : Type 0 where
  pub roots : List ℕ
  pub outer : List (Option ℕ)
  pub current : Option ℕ

-- before its first record a thread has no root and runs no task
abbrev pub at_start : Walk
at_start = record { roots = []; outer = []; current = None }

-- the task that goes on when the innermost root ends: where regions may lie inside others the one that ran
-- when it began (OpenMP 5.2, 10.1: the encountering task goes on behind its region), else the root below
abbrev pub uncovered : Bool → Walk → Option ℕ
uncovered nests walk = if nests then get_or walk.outer 0 None else slice_get walk.roots 1

-- a root begins and runs, or ends; a schedule runs its next task, where its status demands one
abbrev pub after_body : Bool → Walk → Body → Walk
after_body nests walk (ImplicitTask Begin actual index flags parallel task) =
    record { roots = task ∷ walk.roots; outer = walk.current ∷ walk.outer; current = Some task }
after_body nests walk (ImplicitTask End actual index flags parallel task) =
    record { roots = drop 1 walk.roots; outer = drop 1 walk.outer; current = uncovered nests walk }
after_body nests walk (TaskSchedule status turns prior next claimed) =
    if demands_next status then record { roots = walk.roots; outer = walk.outer; current = next } else walk
after_body nests walk _ = walk

abbrev pub after_record : Walk → Record → Walk
after_record walk r = after_body r.nests walk r.body

-- the walk of the thread after its part of the records
abbrev pub walk_of : ℕ → List Record → Walk
walk_of thread rs = fold after_record at_start (filter (λ r. r.thread == thread) rs)

-- a record with this body speaks for a task that a thread with this walk doesn't run
pub data Misfits (rs : List Record) (walk : Walk) (body : Body) : Type 0 where
  -- the record is of a task that isn't the current one
  not_running : (task : ℕ) → running body ≡ Some task → walk.current ≢ Some task → Misfits rs walk body
  -- a root ends that isn't the innermost open one
  not_innermost : (task : ℕ) → ended_root body ≡ Some task → slice_get walk.roots 0 ≢ Some task
      → Misfits rs walk body
  -- a root runs next that isn't the innermost open one
  other_root : (task : ℕ) → started body ≡ Some task → IsRoot rs task → slice_get walk.roots 0 ≢ Some task
      → Misfits rs walk body
  -- a taskwait with dependences is complete whose parent isn't the current task
  other_parent : (task i parent : ℕ) → wait_completed body ≡ Some task → IsCreatedAt rs i parent task
      → walk.current ≢ Some parent → Misfits rs walk body

-- the record at i speaks for a task that its thread doesn't run there
pub record MisfitsAt (rs : List Record) (i : ℕ) : Type 0 where
  pub the_record : Record
  pub stands : slice_get rs i ≡ Some the_record
  pub misfits : Misfits rs (walk_of the_record.thread (take i rs)) the_record.body
