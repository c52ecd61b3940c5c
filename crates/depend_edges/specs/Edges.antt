-- The predecessors of each task.
use Rattle.std.specs.Prelude.{ℕ, ◌≡◌, ◌<◌, ◌≤◌, ◌⊎◌, List, length, Option, Some, Contains, slice_get}
use Rattle.std.specs.Prelude.{slice_index}
use Rattle.ompt_events.specs.declared.records.Record.{Record}
use Rattle.ompt_events.specs.Tree.{IsChild}
use Rattle.ompt_events.specs.Dependences.{IsPredecessor}
use Rattle.task_tree.specs.Runs.{RunView, IsRun}
use Rattle.depend_edges.specs.Lists.{AreListed}

-- the task's predecessors (OpenMP 5.2, 15.9.5), in the order in which their parent created them
pub record ArePredecessors (rs : List Record) (task : ℕ) (predecessors : List ℕ) : Type 0 where
  pub all : (predecessor : ℕ) → IsPredecessor rs task predecessor → Contains predecessors predecessor
  pub only : (predecessor : ℕ) → Contains predecessors predecessor → IsPredecessor rs task predecessor
  pub rising : (a b before behind parent number greater : ℕ) → a < b → slice_get predecessors a ≡ Some before
      → slice_get predecessors b ≡ Some behind → IsChild rs parent number before
      → IsChild rs parent greater behind
      → number < greater

-- by index of the task the greatest of the lengths that its predecessors have, 0 if it has none
pub record ArePredecessorLengths (rs : List Record) (tasks own latest : List ℕ) : Type 0 where
  pub all : length latest ≡ length tasks
  pub each : (index task other predecessor : ℕ) → slice_get tasks index ≡ Some task
      → IsPredecessor rs task predecessor → slice_get tasks other ≡ Some predecessor
      → slice_index own other ≤ slice_index latest index
  pub only : (index task : ℕ) → slice_get tasks index ≡ Some task
      → (slice_index latest index ≡ 0) ⊎ ((other predecessor : ℕ) × IsPredecessor rs task predecessor
      × (slice_get tasks other ≡ Some predecessor) × (slice_index own other ≡ slice_index latest index))

-- ---- the edges

-- the view of edges: their run, and by index of the task the place of its list
pub record EdgesView : Type 0 where
  pub run : RunView
  pub lists : List (Option ℕ)

-- the lists are those of the run
pub record IsEdges (edges : EdgesView) : Type 0 where
  pub run : IsRun edges.run
  pub lists : AreListed edges.run.records (length edges.run.records) edges.run.family.tasks edges.lists
