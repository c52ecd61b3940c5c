-- The task that is missed where a region ends: which children the end waits for, by what is kept of tasks,
-- and which tasks are below them. And the predecessor that is missed where a task starts.
use Rattle.std.specs.Prelude.{ℕ, ◌≡◌, ◌≢◌, ◌<◌, ◌≤◌, ◌+◌, true, List, [], ◌∷◌, ◌++◌, length}
use Rattle.std.specs.Prelude.{Option, Some, is_some, Contains}
use Rattle.ompt_events.specs.declared.records.Record.{Record}
use Rattle.ompt_events.specs.declared.records.Part.{Part}
use Rattle.ompt_events.specs.declared.records.Part.TheVariants.{Body}
use Rattle.ompt_events.specs.declared.names.SyncKind.{SyncKind}
use Rattle.ompt_events.specs.declared.names.SyncKind.TheVariants.{Taskwait, Taskgroup}
use Rattle.ompt_events.specs.declared.names.Endpoint.{Endpoint}
use Rattle.ompt_events.specs.declared.names.Endpoint.TheVariants.{Begin, End}
use Rattle.ompt_events.specs.Records.{finish}
use Rattle.ompt_events.specs.Places.{at, seen_at}
use Rattle.ompt_events.specs.Tree.{IsCreatedAt}
use Rattle.ompt_events.specs.Regions.{is_barrier, open_regions, kind_at}
use Rattle.ompt_events.specs.Coverage.{Covers}
use Rattle.ompt_events.specs.Dependences.{IsPredecessor}
use Rattle.online.specs.declared.kin.Kin.{Kin}
use Rattle.online.specs.declared.missed.Awaited.{Awaited}
use Rattle.online.specs.declared.missed.Awaited.TheVariants.{Children, Group, Team}
use Rattle.online.specs.declared.replay.Replay.{Replay}
use Rattle.online.specs.Online.{IsDependentAt}
use Rattle.online.specs.Tasks.{value_of}
use Rattle.online.specs.Teams.{IsInTeams, EndsBarrierAt, AreSettledUpTo}
use Rattle.online.specs.Waits.{IsWaitsOf, MayFollow}

-- no record finishes the task whole, or its event
abbrev pub IsUnfinished : List Record → ℕ → Type 0
IsUnfinished rs task = (k : ℕ) (part : Part) → at finish rs k ≡ Some (task, part) → part ≡ Body

-- the last record ends a region that waits for the task, which is not finished
pub record EndsTooEarly (rs : List Record) (r : Record) (task : ℕ) : Type 0 where
  pub covered : Covers (rs ++ r ∷ []) (length rs) task
  pub unfinished : IsUnfinished (rs ++ r ∷ []) task

-- at the last record the dependent task starts, or is a taskwait that is complete, and a task that it depends
-- on (OpenMP 5.2, 15.9.5) is not finished
pub record StartsTooEarly (rs : List Record) (r : Record) (dependent predecessor : ℕ) : Type 0 where
  pub dependent_at : IsDependentAt (rs ++ r ∷ []) (length rs) dependent
  pub precedes : IsPredecessor (rs ++ r ∷ []) dependent predecessor
  pub unfinished : IsUnfinished (rs ++ r ∷ []) predecessor

-- no task creates a child while a taskwait of its own is open
abbrev pub AreCreatedOutside : List Record → Type 0
AreCreatedOutside rs =
    (i parent child begin : ℕ) → IsCreatedAt rs i parent child → Contains (open_regions rs parent i) begin
    → kind_at rs begin ≢ Some Taskwait

-- where the end of a region is refused, what is kept of tasks is what the records before it leave
pub record AreTasksLeft (rs : List Record) (r : Record) (table : ℕ → Option Kin) : Type 0 where
  pub follows : MayFollow rs r
  pub waits : IsWaitsOf rs table
  pub places : (task : ℕ) (kin : Kin) → table task ≡ Some kin → IsInTeams rs task kin
  -- and where a barrier ended before it, all is complete that was created up to that
  pub settled : (i parallel number : ℕ) → i < length rs → EndsBarrierAt rs parallel number i
      → AreSettledUpTo rs parallel number (seen_at rs i)

-- ---- the children that an end waits for

-- the task has this parent, by what is kept of it
abbrev pub IsChildIn : (ℕ → Option Kin) → ℕ → ℕ → Type 0
IsChildIn table parent task = (kin : Kin) × (table task ≡ Some kin) × (kin.parent ≡ Some parent)

-- the task, if there is one, has begun a barrier with this number
abbrev pub HasBegunBarrier : (ℕ → Option Kin) → Option ℕ → ℕ → Type 0
HasBegunBarrier table task number =
    (parent : ℕ) × (kin : Kin) × (task ≡ Some parent) × (table parent ≡ Some kin) × (number < kin.barriers)

-- the task is one of the children
abbrev pub IsAwaitedChild : (ℕ → Option Kin) → Awaited → ℕ → Type 0
IsAwaitedChild table (Children parent) task = IsChildIn table parent task
IsAwaitedChild table (Group parent number) task =
    (kin : Kin) × (table task ≡ Some kin) × (kin.parent ≡ Some parent) × (kin.group ≡ number)
IsAwaitedChild table (Team parallel number) task =
    (kin : Kin) × (table task ≡ Some kin) × (kin.parent_team ≡ Some parallel) × (kin.phase ≤ number)
    × HasBegunBarrier table kin.parent number

-- the task is one of the children, or its parent is one or is below one
pub data IsBelowAwaited (table : ℕ → Option Kin) (awaited : Awaited) : ℕ → Type 0 where
  here : {task : ℕ} → IsAwaitedChild table awaited task → IsBelowAwaited table awaited task
  below : (parent : ℕ) {task : ℕ} → IsChildIn table parent task → IsBelowAwaited table awaited parent
      → IsBelowAwaited table awaited task

-- the end that waits for the children waits for the task
abbrev pub IsReached : (ℕ → Option Kin) → Awaited → ℕ → Type 0
IsReached table (Children parent) task = IsChildIn table parent task
IsReached table (Group parent number) task = IsBelowAwaited table (Group parent number) task
IsReached table (Team parallel number) task = IsBelowAwaited table (Team parallel number) task

-- they are the children created in the task's innermost taskgroup
abbrev pub AreInGroup : (ℕ → Option Kin) → ℕ → Awaited → Type 0
AreInGroup table task (Group parent number) =
    (parent ≡ task) × (kin : Kin) × (table task ≡ Some kin) × (number ≡ length kin.groups.items)
AreInGroup table task _ = ⊥

-- they are those that the task's team created before the barriers with the number of its last one
abbrev pub AreInTeam : (ℕ → Option Kin) → ℕ → Awaited → Type 0
AreInTeam table task (Team parallel number) =
    (kin : Kin) × (table task ≡ Some kin) × (kin.team ≡ Some parallel) × (kin.barriers ≡ number + 1)
AreInTeam table task _ = ⊥

-- they are the children that the end of a region of the task waits for
pub data AreAwaitedAt (table : ℕ → Option Kin) (task : ℕ) : SyncKind → Endpoint → Awaited → Type 0 where
  at_taskwait : {endpoint : Endpoint} → endpoint ≢ Begin
      → AreAwaitedAt table task Taskwait endpoint (Children task)
  at_taskgroup : {awaited : Awaited} → AreInGroup table task awaited
      → AreAwaitedAt table task Taskgroup End awaited
  at_barrier : {kind : SyncKind} {awaited : Awaited} → is_barrier kind ≡ true → AreInTeam table task awaited
      → AreAwaitedAt table task kind End awaited

-- ---- the search

-- what is kept in the one is kept in the other
abbrev pub IsPartOfTable : (ℕ → Option Kin) → (ℕ → Option Kin) → Type 0
IsPartOfTable part whole = (task : ℕ) (kin : Kin) → part task ≡ Some kin → whole task ≡ Some kin

-- the task is live, and the end waits for it
abbrev pub IsFoundIn : Replay → (ℕ → Option Kin) → Awaited → ℕ → Type 0
IsFoundIn replay table awaited task =
    (is_some (value_of replay.tasks task) ≡ true) × IsReached table awaited task

-- the same of the end of a region of this task
abbrev pub IsFoundAt : Replay → (ℕ → Option Kin) → ℕ → SyncKind → Endpoint → ℕ → Type 0
IsFoundAt replay table own kind endpoint task =
    (awaited : Awaited) × AreAwaitedAt table own kind endpoint awaited × IsFoundIn replay table awaited task
