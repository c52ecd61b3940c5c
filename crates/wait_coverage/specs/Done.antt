-- The least ledger length at which a task is finished, and the least at which its descendants are too.
use Rattle.std.specs.Prelude.{ℕ, ◌≡◌, ◌<◌, ◌≤◌, ◌^◌, ◌↔◌, List, length, Some, Contains, max, slice_get}
use Rattle.std.specs.Prelude.{slice_set, slice_index}
use Rattle.std.specs.Option.{option_map_or}
use Rattle.ompt_events.specs.declared.records.Record.{Record}
use Rattle.ompt_events.specs.Tree.{IsExplicit}
use Rattle.ompt_events.specs.Coverage.{IsFamily}
use Rattle.task_tree.specs.Family.{FamilyView}
use Rattle.task_tree.specs.Lineage.{parent_index, depth_in}
use Rattle.teams.specs.Teams.{TeamsView, IsTeams}
use Rattle.credit_ledger.specs.TraceEntries.{IsDone}

-- the view of the lengths of tasks: by index of the task a ledger length of its own, and one of the task
-- and all its descendants
pub record DoneView : Type 0 where
  pub teams : TeamsView
  pub own : List ℕ
  pub families : List ℕ

abbrev pub records_of : DoneView → List Record
records_of done = done.teams.run.records

abbrev pub tasks_of : DoneView → List ℕ
tasks_of done = done.teams.run.family.tasks

-- the length of the task is at most m
abbrev pub IsEarly : DoneView → ℕ → ℕ → Type 0
IsEarly done m task = (index limit : ℕ) → slice_get (tasks_of done) index ≡ Some task
    → slice_get done.own index ≡ Some limit → limit ≤ m

-- the length of each task of its family, which is the task and its descendants, is at most m
abbrev pub IsFamilyEarly : DoneView → ℕ → ℕ → Type 0
IsFamilyEarly done m task = (t : ℕ) → IsFamily (records_of done) task t → IsEarly done m t

-- by index of each task the greatest length of the task and its descendants
pub record AreFamilyLengths (done : DoneView) : Type 0 where
  pub all : length done.families ≡ length (tasks_of done)
  pub each : (index task limit m : ℕ) → slice_get (tasks_of done) index ≡ Some task
      → slice_get done.families index ≡ Some limit → (limit ≤ m) ↔ IsFamilyEarly done m task

-- each task has its two lengths
pub record IsDoneView (done : DoneView) : Type 0 where
  pub teams : IsTeams done.teams
  pub own : length done.own ≡ length (tasks_of done)
  pub families : AreFamilyLengths done

-- ---- the lengths that the records name

-- this is the least ledger length at which the task is finished
abbrev pub IsDoneFrom : List Record → ℕ → ℕ → Type 0
IsDoneFrom rs task limit = (m : ℕ) → m < 2 ^ 32 → (limit ≤ m) ↔ IsDone rs m task

-- by index of each task the least ledger length at which it is finished
pub record AreOwnLengths (rs : List Record) (tasks own : List ℕ) : Type 0 where
  pub all : length own ≡ length tasks
  pub each : (index task limit : ℕ) → slice_get tasks index ≡ Some task → slice_get own index ≡ Some limit
      → IsDoneFrom rs task limit

-- the tasks' own lengths are the least at which they are finished
abbrev pub AreDone : DoneView → Type 0
AreDone done = AreOwnLengths (records_of done) (tasks_of done) done.own

-- the same for the tasks that another task created
abbrev pub AreChildrenDone : DoneView → Type 0
AreChildrenDone done = (task m : ℕ) → IsExplicit (records_of done) task → m < 2 ^ 32
    → IsEarly done m task ↔ IsDone (records_of done) m task

-- ---- from the children to their parents

-- all indices of tasks, each after that of its parent
pub record IsParentsFirst (family : FamilyView) (order : List ℕ) : Type 0 where
  pub all : (index : ℕ) → index < length family.tasks → (place : ℕ) × (slice_get order place ≡ Some index)
  pub within : (place index : ℕ) → slice_get order place ≡ Some index → index < length family.tasks
  pub first : (a b child up : ℕ) → slice_get order a ≡ Some child → slice_get order b ≡ Some up
      → parent_index family child ≡ Some up → b < a

-- the first n tasks, each with its depth
pub record AreRanked (family : FamilyView) (n : ℕ) (ranked : List (ℕ × ℕ)) : Type 0 where
  pub all : (index : ℕ) → index < n → Contains ranked (depth_in family index, index)
  pub only : (entry : ℕ × ℕ) → Contains ranked entry → (entry.1 < n) × (entry.0 ≡ depth_in family entry.1)

-- the parent of the task at the index has at least what the task has
abbrev pub raised : FamilyView → ℕ → List ℕ → List ℕ
raised family index limits = option_map_or
    (λ up. slice_set limits up (max (slice_index limits up) (slice_index limits index)))
    (parent_index family index) limits

-- the first index is that of the second's parent, of the parent's parent, and so on, or the second itself
pub data IsAtOrAbove (family : FamilyView) (top : ℕ) : ℕ → Type 0 where
  itself : IsAtOrAbove family top top
  further : {index up : ℕ} → parent_index family index ≡ Some up → IsAtOrAbove family top up
      → IsAtOrAbove family top index

-- each task has at least its floor, and the parents of the tasks from the place n on have at least what
-- these have; none has more than the greatest floor of the tasks that it is above
pub record AreRaised (family : FamilyView) (order floor : List ℕ) (n : ℕ) (limits : List ℕ) : Type 0 where
  pub all : length limits ≡ length floor
  pub own : (index : ℕ) → slice_index floor index ≤ slice_index limits index
  pub passed : (place child up : ℕ) → n ≤ place → slice_get order place ≡ Some child
      → parent_index family child ≡ Some up → slice_index limits child ≤ slice_index limits up
  pub least : (top m : ℕ) → ((index : ℕ) → IsAtOrAbove family top index → slice_index floor index ≤ m)
      → slice_index limits top ≤ m
