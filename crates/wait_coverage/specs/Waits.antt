-- What the end of a region waits for, by the records that create tasks, and what of it is unfinished.
-- Records are named by their numbers in the tasks' own order.
use Rattle.std.specs.Prelude.{ℕ, ◌≡◌, ◌<◌, ◌≤◌, ◌↔◌, Bool, false, true, IsTrue, List, length, Some, slice_get}
use Rattle.std.specs.Prelude.{◌≢◌, Contains, slice_index_or}
use Rattle.std.specs.List.{AllPairs}
use Rattle.ompt_events.specs.declared.records.Record.{Record}
use Rattle.ompt_events.specs.declared.names.SyncKind.{SyncKind}
use Rattle.ompt_events.specs.declared.names.SyncKind.TheVariants.{Taskwait, Taskgroup}
use Rattle.ompt_events.specs.Records.{creation, created}
use Rattle.ompt_events.specs.Places.{at}
use Rattle.ompt_events.specs.Regions.{IsRegion, IsBarrierBegin, is_barrier, waits_for_tasks}
use Rattle.ompt_events.specs.Teams.{IsTeammate}
use Rattle.ompt_events.specs.Coverage.{Covers, IsFamily}
use Rattle.ompt_events.specs.Completion.{IsCompleteAt}
use Rattle.task_tree.specs.Own.{OwnView}
use Rattle.teams.specs.Teams.{own_of}
use Rattle.credit_ledger.specs.declared.entry.Cover.{Cover}
use Rattle.credit_ledger.specs.declared.entry.Cover.TheVariants.{Children, Descendants}
use Rattle.wait_coverage.specs.Done.{DoneView, records_of, tasks_of, IsEarly}
use Rattle.wait_coverage.specs.declared.waits.Wait.{Wait}
use Rattle.wait_coverage.specs.declared.waits.Wait.TheVariants.{Taskwait as ForTaskwait}
use Rattle.wait_coverage.specs.declared.waits.Wait.TheVariants.{Taskgroup as ForTaskgroup}
use Rattle.wait_coverage.specs.declared.waits.Wait.TheVariants.{Barrier as ForBarrier}

-- ---- what a wait is for

-- what the region that ends at i waits for (OpenMP 5.2, 15.5, 15.4 and 15.3)
pub data IsWaitAt (rs : List Record) (tasks : List ℕ) (i : ℕ) : Wait → Type 0 where
  waits : {parent begin index : ℕ} → slice_get tasks index ≡ Some parent
      → IsRegion rs i parent Taskwait begin
      → IsWaitAt rs tasks i (ForTaskwait index begin)
  groups : {parent begin index : ℕ} → slice_get tasks index ≡ Some parent
      → IsRegion rs i parent Taskgroup begin
      → IsWaitAt rs tasks i (ForTaskgroup index begin i)
  meets : {own begin index number : ℕ} {kind : SyncKind} → slice_get tasks index ≡ Some own
      → IsRegion rs i own kind begin → is_barrier kind ≡ true → IsBarrierBegin rs own number begin
      → IsWaitAt rs tasks i (ForBarrier index number)

-- no region that waits for tasks ends at i
abbrev pub EndsNoWaitAt : List Record → ℕ → Type 0
EndsNoWaitAt rs i =
    (task begin : ℕ) (kind : SyncKind) → waits_for_tasks kind ≡ true → IsRegion rs i task kind begin → ⊥

-- a child that the parent creates at this record is waited for
pub data IsInWait (rs : List Record) (tasks : List ℕ) (parent made : ℕ) : Wait → Type 0 where
  -- it is created before the taskwait begins
  before_begin : {index begin : ℕ} → slice_get tasks index ≡ Some parent → made < begin
      → IsInWait rs tasks parent made (ForTaskwait index begin)
  -- it is created in the taskgroup
  in_group : {index begin end : ℕ} → slice_get tasks index ≡ Some parent → begin ≤ made → made < end
      → IsInWait rs tasks parent made (ForTaskgroup index begin end)
  -- it is created by a member of the team before the member's barrier with this number begins
  by_member : {index number own start : ℕ} → slice_get tasks index ≡ Some own → IsTeammate rs own parent
      → IsBarrierBegin rs parent number start → made < start
      → IsInWait rs tasks parent made (ForBarrier index number)

-- the child is one of those that are waited for
pub record IsOwnChild (rs : List Record) (tasks : List ℕ) (wait : Wait) (child : ℕ) : Type 0 where
  pub parent : ℕ
  pub made : ℕ
  pub within : IsInWait rs tasks parent made wait
  pub creates : at creation rs made ≡ Some (parent, child)

-- whether the descendants of the children are waited for too
abbrev pub cover_of : Wait → Cover
cover_of (ForTaskwait index begin) = Children
cover_of (ForTaskgroup index begin end) = Descendants
cover_of (ForBarrier index number) = Descendants

-- the index of the task that waits
abbrev pub waiting : Wait → ℕ
waiting (ForTaskwait index begin) = index
waiting (ForTaskgroup index begin end) = index
waiting (ForBarrier index number) = index

-- one of the tasks that are waited for: a child, or one of its family
abbrev pub IsAwaitedBy : List Record → List ℕ → ℕ → Wait → Cover → Type 0
IsAwaitedBy rs tasks task wait Children = IsOwnChild rs tasks wait task
IsAwaitedBy rs tasks task wait Descendants = (child : ℕ) × IsOwnChild rs tasks wait child
    × IsFamily rs child task

abbrev pub IsAwaited : List Record → List ℕ → Wait → ℕ → Type 0
IsAwaited rs tasks wait task = IsAwaitedBy rs tasks task wait (cover_of wait)

-- by index of each task whether it is waited for
pub record AreAwaited (rs : List Record) (tasks : List ℕ) (wait : Wait) (marks : List Bool) : Type 0 where
  pub all : length marks ≡ length tasks
  pub each : (index task : ℕ) → slice_get tasks index ≡ Some task
      → IsTrue (slice_index_or marks index false) ↔ IsAwaited rs tasks wait task

-- the same for the tasks at the first n places of an order
pub record AreAwaitedMarked (rs : List Record) (tasks : List ℕ) (wait : Wait) (order : List ℕ) (n : ℕ)
    (marks : List Bool) : Type 0 where
  pub all : length marks ≡ length tasks
  pub each : (place index task : ℕ) → place < n → slice_get order place ≡ Some index
      → slice_get tasks index ≡ Some task
      → IsTrue (slice_index_or marks index false) ↔ IsAwaited rs tasks wait task

-- ---- what is unfinished

-- the end at i covers the task, which is unfinished there
pub record IsCoveredUnfinished (rs : List Record) (i task : ℕ) : Type 0 where
  pub covered : Covers rs i task
  pub incomplete : IsCompleteAt rs task i → ⊥

-- these are the tasks of which the fact holds, each once
pub record AreEach (holds : ℕ → Type 0) (tasks : List ℕ) : Type 0 where
  pub exactly : (task : ℕ) → Contains tasks task ↔ holds task
  pub apart : AllPairs (λ x y. x ≢ y) tasks

-- the record at the place in the file creates the task
abbrev pub CreatesAtPlace : OwnView → ℕ → ℕ → Type 0
CreatesAtPlace own place task = (number : ℕ) × (slice_get own.places number ≡ Some place)
    × (at created own.run.records number ≡ Some task)

-- of the tasks that the end with this number covers and that are unfinished there, this one was created
-- first in the file
pub record IsFirstCoveredUnfinished (own : OwnView) (end task : ℕ) : Type 0 where
  pub unfinished : IsCoveredUnfinished own.run.records end task
  pub creation : ℕ
  pub is_created : CreatesAtPlace own creation task
  pub created_first : (place other : ℕ) → place < creation → CreatesAtPlace own place other
      → IsCoveredUnfinished own.run.records end other → ⊥

-- the task is waited for, and its length is above the one seen
abbrev pub IsAwaitedUnfinished : DoneView → Wait → ℕ → ℕ → Type 0
IsAwaitedUnfinished done wait seen task =
    IsAwaited (records_of done) (tasks_of done) wait task × (IsEarly done seen task → ⊥)

-- such a task, which is created at this place in the file
abbrev pub IsAwaitedUnfinishedAt : DoneView → Wait → ℕ → ℕ → ℕ → Type 0
IsAwaitedUnfinishedAt done wait seen place task =
    CreatesAtPlace (own_of done.teams) place task × IsAwaitedUnfinished done wait seen task

-- the first such task in the file
pub record IsFirstLate (done : DoneView) (wait : Wait) (seen task : ℕ) : Type 0 where
  pub place : ℕ
  pub late : IsAwaitedUnfinishedAt done wait seen place task
  pub first : (k other : ℕ) → k < place → IsAwaitedUnfinishedAt done wait seen k other → ⊥
