-- A run: the records of a trace and the family of its tasks. What its records say, by indices of tasks.
use Rattle.std.specs.Prelude.{ℕ, ◌≡◌, List, Option, Some, None, slice_get}
use Rattle.ompt_events.specs.declared.records.Record.{Record}
use Rattle.ompt_events.specs.declared.records.Body.{Body}
use Rattle.ompt_events.specs.declared.records.Part.{Part}
use Rattle.ompt_events.specs.declared.names.Status.{Status}
use Rattle.ompt_events.specs.declared.names.SyncKind.{SyncKind}
use Rattle.ompt_events.specs.declared.names.Endpoint.{Endpoint}
use Rattle.ompt_events.specs.declared.names.WaitKind.{WaitKind}
use Rattle.ompt_events.specs.declared.deps.Dep.{Dep}
use Rattle.ompt_events.specs.Records.{begun_root, creation, dependences, ended_root, finish, forked, region}
use Rattle.ompt_events.specs.Records.{running, schedule}
use Rattle.ompt_events.specs.Places.{at}
use Rattle.ompt_events.specs.Traces.{IsTrace, IsTraceOf}
use Rattle.ompt_events.specs.Waits.{wait_kind}
use Rattle.task_tree.specs.Family.{FamilyView, IsFamilyOf}
use Rattle.task_tree.specs.Subjects.{Calls}
use Rattle.task_tree.specs.declared.run.ThreadEvent.{ThreadEvent}
use Rattle.task_tree.specs.declared.run.ThreadEvent.TheVariants.{Scheduled, RootBegin, RootEnd, Running}

-- the view of a run
pub record RunView : Type 0 where
  pub records : List Record
  pub family : FamilyView

-- the records are a trace of any version, and the family is theirs
pub record IsRun (run : RunView) : Type 0 where
  pub trace : IsTrace run.records
  pub version : ℕ
  pub of_version : IsTraceOf version run.records
  pub family : IsFamilyOf run.records run.family

-- the index is that of the task that the record at the place names in this way; none if it names none
abbrev pub IsIndexOf : RunView → (Body → Option ℕ) → ℕ → Option ℕ → Type 0
IsIndexOf run says i index = Calls run.family.tasks (at says run.records i) index

-- the task at the one index creates the one at the other there (OpenMP 5.2, 19.5.2.7)
pub record IsCreation (run : RunView) (i parent child : ℕ) : Type 0 where
  pub creator : ℕ
  pub task : ℕ
  pub says : at creation run.records i ≡ Some (creator, task)
  pub creator_indexed : slice_get run.family.tasks parent ≡ Some creator
  pub task_indexed : slice_get run.family.tasks child ≡ Some task

-- this part of the task at the index is finished there
pub record IsFinish (run : RunView) (i index : ℕ) (part : Part) : Type 0 where
  pub task : ℕ
  pub says : at finish run.records i ≡ Some (task, part)
  pub indexed : slice_get run.family.tasks index ≡ Some task

-- the task at the index begins or ends a region there (19.5.2.13)
pub record IsRegionEvent (run : RunView) (i index : ℕ) (kind : SyncKind) (endpoint : Endpoint) : Type 0 where
  pub task : ℕ
  pub says : at region run.records i ≡ Some (task, kind, endpoint)
  pub indexed : slice_get run.family.tasks index ≡ Some task

-- a task_schedule event there has this status, and the tasks at these indices (19.5.2.10)
pub record IsSchedule (run : RunView) (i : ℕ) (schedule_status : Status) (prior : ℕ) (next : Option ℕ) : Type
    0 where
  pub task : ℕ
  pub follower : Option ℕ
  pub says : at schedule run.records i ≡ Some (schedule_status, task, follower)
  pub indexed : slice_get run.family.tasks prior ≡ Some task
  pub next_indexed : Calls run.family.tasks follower next

-- the record there says this of the tasks that its thread runs
abbrev pub IsThreadEvent : RunView → ℕ → ThreadEvent → Type 0
IsThreadEvent run i (Scheduled event) = IsSchedule run i event.status event.prior event.next
IsThreadEvent run i (RootBegin index) = IsIndexOf run begun_root i (Some index)
IsThreadEvent run i (RootEnd index) = IsIndexOf run ended_root i (Some index)
IsThreadEvent run i (Running index) =
    (at schedule run.records i ≡ None) × IsIndexOf run begun_root i None × IsIndexOf run ended_root i None
    × IsIndexOf run running i (Some index)

-- it says nothing of them
abbrev pub IsNoThreadEvent : RunView → ℕ → Type 0
IsNoThreadEvent run i =
    (at schedule run.records i ≡ None) × IsIndexOf run begun_root i None × IsIndexOf run ended_root i None
    × IsIndexOf run running i None

-- the task at the index begins a parallel region there (19.5.2.3)
pub record IsFork (run : RunView) (i index : ℕ) : Type 0 where
  pub task : ℕ
  pub parallel : ℕ
  pub says : at forked run.records i ≡ Some (task, parallel)
  pub indexed : slice_get run.family.tasks index ≡ Some task

-- the task at the index begins or ends a region there that waits for such tasks (15.3 to 15.5)
pub record IsWaitEvent (run : RunView) (i index : ℕ) (kind : WaitKind) (endpoint : Endpoint) : Type 0 where
  pub task : ℕ
  pub sync : SyncKind
  pub says : at region run.records i ≡ Some (task, sync, endpoint)
  pub waits : wait_kind sync ≡ Some kind
  pub indexed : slice_get run.family.tasks index ≡ Some task

-- no region begins or ends there that waits for tasks
abbrev pub IsNoWaitEvent : RunView → ℕ → Type 0
IsNoWaitEvent run i =
    (task : ℕ) (sync : SyncKind) (endpoint : Endpoint) → at region run.records i ≡ Some (task, sync, endpoint)
    → wait_kind sync ≡ None

-- these dependences of the task at the index are listed there (15.9.5)
pub record AreDependences (run : RunView) (i index : ℕ) (items : List Dep) : Type 0 where
  pub task : ℕ
  pub says : at dependences run.records i ≡ Some (task, items)
  pub indexed : slice_get run.family.tasks index ≡ Some task
