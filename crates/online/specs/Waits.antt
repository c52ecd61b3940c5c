-- Which tasks are not complete yet, and what is counted of them for the ends of regions that wait for tasks.
use Rattle.std.specs.Prelude.{ℕ, ◌≡◌, ◌≢◌, ◌<◌, ◌≤◌, ◌+◌, ◌-◌, ◌^◌, ◌⊎◌, Bool, true, false, List, []}
use Rattle.std.specs.Prelude.{◌∷◌, ◌++◌}
use Rattle.std.specs.Prelude.{length, filter, min, max, not, Option, Some, None, is_some, slice_get, Contains}
use Rattle.std.specs.Prelude.{nat_lt, if◌then◌else◌}
use Rattle.std.specs.Option.{option_map_or}
use Rattle.ompt_events.specs.declared.records.Record.{Record}
use Rattle.ompt_events.specs.declared.records.Part.{Part}
use Rattle.ompt_events.specs.declared.records.Part.TheVariants.{Body, Event}
use Rattle.ompt_events.specs.declared.names.SyncKind.{SyncKind}
use Rattle.ompt_events.specs.declared.names.SyncKind.TheVariants.{Taskwait, Taskgroup}
use Rattle.ompt_events.specs.declared.names.Endpoint.{Endpoint}
use Rattle.ompt_events.specs.declared.names.Endpoint.TheVariants.{Begin, End, BeginEnd}
use Rattle.ompt_events.specs.declared.cause.Cause.TheVariants.{CreatedTwice}
use Rattle.ompt_events.specs.Records.{made, creation, ended_root, finish, region}
use Rattle.ompt_events.specs.Places.{at, seen_at}
use Rattle.ompt_events.specs.Tree.{IsExplicit, IsCreatedAt, IsParent}
use Rattle.ompt_events.specs.Regions.{open_regions, kind_at, EndsRegion, is_barrier}
use Rattle.ompt_events.specs.Completion.{IsFinished, IsCompleteAt}
use Rattle.ompt_events.specs.Coverage.{IsFamily, Covers}
use Rattle.ompt_events.specs.Causes.{IsMade, IsFreeOf}
use Rattle.online.specs.Online.{IsWatchable}
use Rattle.online.specs.declared.scope.Scope.{Scope}
use Rattle.online.specs.declared.kin.Kin.{Kin}

-- ---- what is complete

-- by the entries below the length the task is complete
abbrev pub IsCompleteBelow : List Record → ℕ → ℕ → Type 0
IsCompleteBelow rs length task = IsFinished rs (λ k. seen_at rs k < length) task

-- by them it is settled: the task and all its descendants are complete
abbrev pub IsSettled : List Record → ℕ → ℕ → Type 0
IsSettled rs length task = (other : ℕ) → IsFamily rs task other → IsCompleteBelow rs length other

-- a record finishes the task whole, or its event, or ends it as a root
abbrev pub IsOver : List Record → ℕ → Type 0
IsOver rs task =
    ((k : ℕ) × (part : Part) × (at finish rs k ≡ Some (task, part)) × (part ≢ Body))
    ⊎ ((k : ℕ) × (at ended_root rs k ≡ Some task))

-- a record makes the task, and it is not over
abbrev pub IsLive : List Record → ℕ → Type 0
IsLive rs task = IsMade rs task × (IsOver rs task → ⊥)

-- ---- what is counted of some tasks

-- of no tasks
abbrev pub no_tasks : Scope
no_tasks = record { left = 0; greatest = 0 }

-- with one more task, which is not over
abbrev pub with_task : Scope → Scope
with_task s = record { left = min (s.left + 1) (2 ^ 64 - 1); greatest = s.greatest }

-- where one of the tasks is over from the length on
abbrev pub without_task : ℕ → Scope → Scope
without_task length s = record { left = s.left - 1; greatest = max s.greatest length }

-- with more tasks, which are over from the length on
abbrev pub raised : ℕ → Scope → Scope
raised length s = record { left = s.left; greatest = max s.greatest length }

-- of the tasks that are in it, at most so many are left, among them all that are kept; each other one is over
-- from the greatest length on
pub record IsScopeOf (most : ℕ) (is_in : ℕ → Type 0) (is_kept : ℕ → Bool) (is_over : ℕ → ℕ → Type 0)
    (scope : Scope) : Type 0 where
  pub tasks : List ℕ
  pub counted : scope.left ≡ length tasks
  pub few : scope.left ≤ most
  pub waits : (task : ℕ) → is_in task → is_kept task ≡ true → Contains tasks task
  pub rest : (task : ℕ) → is_in task → is_kept task ≡ false → is_over scope.greatest task

-- ---- what is kept of a task

-- the scope with this number, from 1, is changed; 0 is the number of none
pub record ChangesScope (change : Scope → Scope) (number : ℕ) (old new : List Scope) : Type 0 where
  pub as_many : length new ≡ length old
  pub each : (place : ℕ) (s : Scope) → slice_get new place ≡ Some s
      → (was : Scope) × (slice_get old place ≡ Some was) × (place + 1 ≡ number → s ≡ change was)
      × (place + 1 ≢ number → s ≡ was)

-- what is kept of a task stays, but for what is counted
pub record KeepsPlace (old new : Kin) : Type 0 where
  pub parent : new.parent ≡ old.parent
  pub group : new.group ≡ old.group

-- and so does what it was told of teams and barriers
pub record KeepsTold (old new : Kin) : Type 0 where
  pub team : new.team ≡ old.team
  pub parent_team : new.parent_team ≡ old.parent_team
  pub phase : new.phase ≡ old.phase
  pub barriers : new.barriers ≡ old.barriers

-- the task creates a child
pub record CountsChild (old new : Kin) : Type 0 where
  pub place : KeepsPlace old new
  pub told : KeepsTold old new
  pub done : new.done ≡ old.done
  pub family : new.family ≡ with_task old.family
  pub children : new.children ≡ with_task old.children
  pub groups : ChangesScope with_task (length old.groups.items) old.groups.items new.groups.items

-- a child of the task is complete from the length on
pub record CompletesChild (length : ℕ) (old new : Kin) : Type 0 where
  pub place : KeepsPlace old new
  pub told : KeepsTold old new
  pub done : new.done ≡ old.done
  pub family : new.family ≡ old.family
  pub children : new.children ≡ without_task length old.children
  pub groups : new.groups.items ≡ old.groups.items

-- a child of the task, created in the taskgroup with this number, is settled from the length on
pub record SettlesChild (number length : ℕ) (old new : Kin) : Type 0 where
  pub place : KeepsPlace old new
  pub told : KeepsTold old new
  pub done : new.done ≡ old.done
  pub family : new.family ≡ without_task length old.family
  pub children : new.children ≡ old.children
  pub groups : ChangesScope (without_task length) number old.groups.items new.groups.items

-- the task itself is complete from the length on
pub record Completes (length : ℕ) (old new : Kin) : Type 0 where
  pub place : KeepsPlace old new
  pub told : KeepsTold old new
  pub done : new.done ≡ true
  pub family : new.family ≡ raised length old.family
  pub children : new.children ≡ old.children
  pub groups : new.groups.items ≡ old.groups.items

-- only what is counted of its taskgroups changes
pub record ChangesGroups (old new : Kin) : Type 0 where
  pub place : KeepsPlace old new
  pub done : new.done ≡ old.done
  pub family : new.family ≡ old.family
  pub children : new.children ≡ old.children

-- the task begins a taskgroup
pub record BeginsGroup (old new : Kin) : Type 0 where
  pub rest : ChangesGroups old new
  pub told : KeepsTold old new
  pub groups : new.groups.items ≡ old.groups.items ++ no_tasks ∷ []

-- the task ends its innermost taskgroup, in which all is over at the length: that counts for the one outside
-- it
pub record EndsGroup (most : ℕ) (old new : Kin) : Type 0 where
  pub rest : ChangesGroups old new
  pub told : KeepsTold old new
  pub inner : Scope
  pub others : List Scope
  pub were : old.groups.items ≡ others ++ inner ∷ []
  pub none_left : inner.left ≡ 0
  pub greatest : inner.greatest ≤ most
  pub groups : ChangesScope (raised inner.greatest) (length others) others new.groups.items

-- a task of which nothing is counted yet
pub record IsNew (parent : Option ℕ) (group : ℕ) (kin : Kin) : Type 0 where
  pub parent_is : kin.parent ≡ parent
  pub group_is : kin.group ≡ group
  pub done : kin.done ≡ false
  pub family : kin.family ≡ no_tasks
  pub children : kin.children ≡ no_tasks
  pub groups : kin.groups.items ≡ []

-- all of it stays
pub record StaysKin (old new : Kin) : Type 0 where
  pub rest : ChangesGroups old new
  pub told : KeepsTold old new
  pub groups : new.groups.items ≡ old.groups.items

-- ---- what is kept of all tasks

-- what is kept of the task with this id changes so, if anything is kept of it
pub record ChangesAt (change : Kin → Kin → Type 0) (task : ℕ) (old new : ℕ → Option Kin) : Type 0 where
  pub absent : old task ≡ None → new task ≡ None
  pub present : (kin : Kin) → old task ≡ Some kin
      → (after : Kin) × (new task ≡ Some after) × change kin after
  pub others : (other : ℕ) → other ≢ task → new other ≡ old other

-- the same of a parent, where there is one
abbrev pub ChangesAbove : (Kin → Kin → Type 0) → Option ℕ → (ℕ → Option Kin) → (ℕ → Option Kin) → Type 0
ChangesAbove change None old new = (other : ℕ) → new other ≡ old other
ChangesAbove change (Some parent) old new = ChangesAt change parent old new

-- this is kept of the task, and of each other what was
pub record Puts (task : ℕ) (kin : Kin) (old new : ℕ → Option Kin) : Type 0 where
  pub here : new task ≡ Some kin
  pub others : (other : ℕ) → other ≢ task → new other ≡ old other

-- nothing is kept of the task, and of each other what was
pub record Removes (task : ℕ) (old new : ℕ → Option Kin) : Type 0 where
  pub here : new task ≡ None
  pub others : (other : ℕ) → other ≢ task → new other ≡ old other

-- of each task the same is kept
abbrev pub IsSameTable : (ℕ → Option Kin) → (ℕ → Option Kin) → Type 0
IsSameTable old new = (task : ℕ) → new task ≡ old task

-- whether anything is kept of the task
abbrev pub is_kept : (ℕ → Option Kin) → ℕ → Bool
is_kept table task = is_some (table task)

-- whether something is kept of it by which it is not complete
abbrev pub is_going : (ℕ → Option Kin) → ℕ → Bool
is_going table task = option_map_or (λ (k : Kin). not k.done) (table task) false

-- whether the kind is that of a taskgroup
abbrev pub is_taskgroup : Option SyncKind → Bool
is_taskgroup (Some Taskgroup) = true
is_taskgroup _ = false

-- the begins of the task's taskgroups that are open behind all records, the innermost first
abbrev pub open_groups : List Record → ℕ → List ℕ
open_groups rs task = filter (λ b. is_taskgroup (kind_at rs b)) (open_regions rs task (length rs))

-- how many of the places are before the place i
abbrev pub number_before : List ℕ → ℕ → ℕ
number_before [] i = 0
number_before (b ∷ bs) i = (if nat_lt b i then 1 else 0) + number_before bs i

-- a child of the task that was created in the open taskgroup with this number, from 1, and in none inside it
abbrev pub IsInGroup : List Record → ℕ → ℕ → ℕ → Type 0
IsInGroup rs task number child =
    (i : ℕ) × IsCreatedAt rs i task child × (number_before (open_groups rs task) i ≡ number)

-- of each open taskgroup the scope of what it has
pub record AreGroups (rs : List Record) (table : ℕ → Option Kin) (task : ℕ) (groups : List Scope)
    : Type 0 where
  pub as_many : length groups ≡ length (open_groups rs task)
  pub each : (place : ℕ) (s : Scope) → slice_get groups place ≡ Some s
      → IsScopeOf (length rs) (IsInGroup rs task (place + 1)) (is_kept table) (IsSettled rs) s

-- this is what the records say of the creation and the end of the task
pub record IsPlaceOf (rs : List Record) (table : ℕ → Option Kin) (task : ℕ) (kin : Kin) : Type 0 where
  -- it has the parent that created it, which is another task
  pub created : (i parent : ℕ) → IsCreatedAt rs i parent task → kin.parent ≡ Some parent
  pub parent : (parent : ℕ) → kin.parent ≡ Some parent → IsParent rs parent task × (parent ≢ task)
  -- it was created in so many of the taskgroups that the parent has open
  pub group : (i parent : ℕ) (above : Kin) → IsCreatedAt rs i parent task → table parent ≡ Some above
      → kin.group ≡ number_before (open_groups rs parent) i
  -- where it is done, it is over, and an explicit task is complete
  pub over : kin.done ≡ true → IsOver rs task
  pub complete : kin.done ≡ true → IsExplicit rs task → IsCompleteBelow rs kin.family.greatest task

-- this is what the records leave of the task: its place, and what is counted of all its children
pub record IsKinOf (rs : List Record) (table : ℕ → Option Kin) (task : ℕ) (kin : Kin) : Type 0 where
  pub place : IsPlaceOf rs table task kin
  pub family : IsScopeOf (length rs) (IsParent rs task) (is_kept table) (IsSettled rs) kin.family
  pub children : IsScopeOf (length rs) (IsParent rs task) (is_going table) (IsCompleteBelow rs) kin.children

-- this is what the records leave of all tasks
pub record IsWaitsOf (rs : List Record) (table : ℕ → Option Kin) : Type 0 where
  -- only of tasks that were made; of which nothing is kept, that is over
  pub made : (task : ℕ) (kin : Kin) → table task ≡ Some kin → IsMade rs task
  pub gone : (task : ℕ) → IsMade rs task → table task ≡ None → IsOver rs task
  pub each : (task : ℕ) (kin : Kin) → table task ≡ Some kin → IsKinOf rs table task kin
  pub groups : (task : ℕ) (kin : Kin) → table task ≡ Some kin → AreGroups rs table task kin.groups.items

-- ---- which record may follow

-- the record may follow the others
pub record MayFollow (rs : List Record) (r : Record) : Type 0 where
  pub watchable : IsWatchable (rs ++ r ∷ [])
  pub once : IsFreeOf (rs ++ r ∷ []) CreatedTwice
  -- there are fewer than 2^64 - 1 records
  pub few : length rs + 2 < 2 ^ 64
  -- a task that creates one is live, and so is one that is finished; where its event is, its body was before
  pub creates : (parent child : ℕ) → creation r.body ≡ Some (parent, child) → IsLive rs parent
  pub finishes : (task : ℕ) (part : Part) → finish r.body ≡ Some (task, part) → part ≢ Body → IsLive rs task
  pub fulfils : (task : ℕ) → finish r.body ≡ Some (task, Event)
      → (k : ℕ) × (at finish rs k ≡ Some (task, Body))
  -- a root that ends is live
  pub stops : (task : ℕ) → ended_root r.body ≡ Some task → IsLive rs task
  -- the end of a region has a begin
  pub ends : (task : ℕ) (kind : SyncKind) → region r.body ≡ Some (task, kind, End)
      → (begin : ℕ) × EndsRegion (rs ++ r ∷ []) (length rs) task kind begin

-- by all records, what the new one's end of a region covers is complete there
abbrev pub IsCoverComplete : List Record → Record → Type 0
IsCoverComplete rs r =
    (task : ℕ) → Covers (rs ++ r ∷ []) (length rs) task → IsCompleteAt (rs ++ r ∷ []) task (length rs)

-- what the records left of all tasks, is still so for them
abbrev pub KeepsWaits : (ℕ → Option Kin) → (ℕ → Option Kin) → Type 0
KeepsWaits old new =
    (rs : List Record) → IsFreeOf rs CreatedTwice → IsWaitsOf rs old → IsWaitsOf rs new

-- where the new record says so, what is kept becomes what it leaves
abbrev pub Follows : (Record → Type 0) → (ℕ → Option Kin) → (ℕ → Option Kin) → Type 0
Follows says old new =
    (rs : List Record) (r : Record) → says r → MayFollow rs r → IsWaitsOf rs old
    → IsWaitsOf (rs ++ r ∷ []) new

-- ---- what a record says, for each step

-- it ends a region, and does not begin a barrier too
abbrev pub ends_region : Option (ℕ × SyncKind × Endpoint) → Bool
ends_region (Some (task, kind, End)) = true
ends_region (Some (task, kind, BeginEnd)) = not (is_barrier kind)
ends_region _ = false

-- it ends the root
abbrev pub EndsRoot : ℕ → Record → Type 0
EndsRoot root r = ended_root r.body ≡ Some root

-- it creates the child for the parent
abbrev pub CreatesTask : ℕ → ℕ → Record → Type 0
CreatesTask parent child r = creation r.body ≡ Some (parent, child)

-- it finishes the task whole, or its event, and its entry has the index seen
abbrev pub CompletesTask : ℕ → ℕ → Record → Type 0
CompletesTask task seen r =
    ((part : Part) × (finish r.body ≡ Some (task, part)) × (part ≢ Body)) × (r.seen ≡ seen)

-- it begins a taskgroup of the task
abbrev pub BeginsTaskgroup : ℕ → Record → Type 0
BeginsTaskgroup task r = region r.body ≡ Some (task, Taskgroup, Begin)

-- it ends a taskgroup of the task, and names the length seen
abbrev pub EndsTaskgroup : ℕ → ℕ → Record → Type 0
EndsTaskgroup task seen r = (region r.body ≡ Some (task, Taskgroup, End)) × (r.seen ≡ seen)

-- it ends a taskwait of the task, which may begin there too, and names the length seen
abbrev pub EndsTaskwait : ℕ → ℕ → Record → Type 0
EndsTaskwait task seen r =
    ((endpoint : Endpoint) × (region r.body ≡ Some (task, Taskwait, endpoint))) × (r.seen ≡ seen)

-- it makes no task, and begins and ends no taskgroup, unless it is the begin and the end of one
abbrev pub ChangesNothing : Record → Type 0
ChangesNothing r =
    (made r.body ≡ None) × ((task : ℕ) → region r.body ≢ Some (task, Taskgroup, Begin))
    × ((task : ℕ) → region r.body ≢ Some (task, Taskgroup, End))
