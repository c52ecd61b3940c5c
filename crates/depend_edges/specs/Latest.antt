-- The greatest length of the predecessors of each task, parent by parent.
use Rattle.std.specs.Prelude.{ℕ, ◌≡◌, ◌<◌, ◌≤◌, ◌⊎◌, List, length, Some, slice_get, slice_index}
use Rattle.std.specs.BTreeMap.{BTreeMap}
use Rattle.ompt_events.specs.declared.records.Record.{Record}
use Rattle.ompt_events.specs.declared.deps.Dep.{Dep}
use Rattle.ompt_events.specs.declared.names.DepKind.{DepKind}
use Rattle.ompt_events.specs.Tree.{IsChild, children}
use Rattle.ompt_events.specs.Dependences.{DependsOn, IsPredecessor}
use Rattle.depend_edges.specs.declared.maxima.Maxima.{Maxima}
use Rattle.depend_edges.specs.Edges.{EdgesView}
use Rattle.depend_edges.specs.Maxima.{maximum_at, ConflictAlike}

-- one of the first n siblings, its index, and one of its items
pub record IsUse (rs : List Record) (tasks siblings : List ℕ) (n index : ℕ) (item : Dep) : Type 0 where
  pub number : ℕ
  pub below : number < n
  pub sibling : ℕ
  pub stands : slice_get siblings number ≡ Some sibling
  pub is_index : slice_get tasks index ≡ Some sibling
  pub depends : DependsOn rs sibling item

-- by location the greatest lengths of the first n siblings
pub record AreMaxima (rs : List Record) (tasks own siblings : List ℕ) (n : ℕ)
    (map : BTreeMap ℕ Maxima) : Type 0 where
  pub bound : (index : ℕ) (item : Dep) → IsUse rs tasks siblings n index item
      → slice_index own index ≤ maximum_at map item.var item.kind
  pub only : (var : ℕ) (kind : DepKind) → (maximum_at map var kind ≡ 0)
      ⊎ ((index : ℕ) × (item : Dep) × IsUse rs tasks siblings n index item × (item.var ≡ var)
      × ConflictAlike item.kind kind × (maximum_at map var kind ≡ slice_index own index))

-- the greatest of the lengths of the task's predecessors, 0 if it has none
pub record IsGreatestLength (rs : List Record) (tasks own : List ℕ) (task latest : ℕ) : Type 0 where
  pub bound : (other predecessor : ℕ) → IsPredecessor rs task predecessor
      → slice_get tasks other ≡ Some predecessor → slice_index own other ≤ latest
  pub only : (latest ≡ 0) ⊎ ((other predecessor : ℕ) × IsPredecessor rs task predecessor
      × (slice_get tasks other ≡ Some predecessor) × (slice_index own other ≡ latest))

-- the child of this number of the parent comes before that of the number n of the parent at the index `up`
abbrev pub IsChildPassed : List ℕ → ℕ → ℕ → ℕ → ℕ → Type 0
IsChildPassed tasks up n parent number =
    (place : ℕ) × (slice_get tasks place ≡ Some parent) × ((place < up) ⊎ ((place ≡ up) × (number < n)))

-- the lengths are right for the children so far, and for each task 0 or that of a predecessor
pub record AreLatestSoFar (rs : List Record) (tasks own : List ℕ) (up n : ℕ) (latest : List ℕ) : Type 0 where
  pub all : length latest ≡ length tasks
  pub bound : (index task other predecessor : ℕ) → slice_get tasks index ≡ Some task
      → (is : IsPredecessor rs task predecessor) → IsChildPassed tasks up n is.parent is.number
      → slice_get tasks other ≡ Some predecessor → slice_index own other ≤ slice_index latest index
  pub only : (index task : ℕ) → slice_get tasks index ≡ Some task
      → (slice_index latest index ≡ 0) ⊎ ((other predecessor : ℕ) × IsPredecessor rs task predecessor
      × (slice_get tasks other ≡ Some predecessor) × (slice_index own other ≡ slice_index latest index))

-- the task is the child of this number of the parent at the index
abbrev pub IsChildOfIndex : List Record → List ℕ → ℕ → ℕ → ℕ → Type 0
IsChildOfIndex rs tasks up number task =
    (parent : ℕ) → slice_get tasks up ≡ Some parent → IsChild rs parent number task

-- the greatest lengths of the first n children of the parent at the index
abbrev pub AreMaximaAt : List Record → List ℕ → List ℕ → ℕ → ℕ → BTreeMap ℕ Maxima → Type 0
AreMaximaAt rs tasks own up n map =
    (parent : ℕ) → slice_get tasks up ≡ Some parent → AreMaxima rs tasks own (children rs parent) n map

-- ---- by index of the task a length

-- the view of lengths: the edges between their tasks, and by index of the task its length
pub record LengthsView : Type 0 where
  pub edges : EdgesView
  pub own : List ℕ

-- each task has a length
abbrev pub HaveLengths : LengthsView → Type 0
HaveLengths lengths = length lengths.own ≡ length lengths.edges.run.family.tasks

-- the task is the child of this number of the parent at the index
abbrev pub IsChildOf : LengthsView → ℕ → ℕ → ℕ → Type 0
IsChildOf lengths = IsChildOfIndex lengths.edges.run.records lengths.edges.run.family.tasks

-- the greatest lengths of the first n children of the parent at the index
abbrev pub AreMaximaOf : LengthsView → ℕ → ℕ → BTreeMap ℕ Maxima → Type 0
AreMaximaOf lengths = AreMaximaAt lengths.edges.run.records lengths.edges.run.family.tasks lengths.own

-- the greatest lengths of the predecessors of the children before that of the number n of the parent at the
-- index
abbrev pub AreLatestUpTo : LengthsView → ℕ → ℕ → List ℕ → Type 0
AreLatestUpTo lengths = AreLatestSoFar lengths.edges.run.records lengths.edges.run.family.tasks lengths.own
