-- The path of each task, by index of the task.
use Rattle.std.specs.Prelude.{ℕ, ◌≡◌, ◌++◌, List, length, reverse, Some, option_map, slice_get}
use Rattle.std.specs.Global.{Vec}
use Rattle.ompt_events.specs.declared.records.Record.{Record}
use Rattle.ompt_events.specs.Tree.{HasPath}
use Rattle.ompt_events.specs.Traces.{TraceView}
use Rattle.ompt_events.specs.Turns.{in_own_order}
use Rattle.task_tree.specs.Families.{FamiliesView, AreFamiliesOf, own_family}

-- at the index of each task, its path
pub record ArePaths (rs : List Record) (tasks : List ℕ) (paths : List (Vec ℕ)) : Type 0 where
  pub all : length paths ≡ length tasks
  pub each : (index task root : ℕ) (path : List ℕ) → slice_get tasks index ≡ Some task
      → HasPath rs root task path
      → option_map (λ (found : Vec ℕ). found.items) (slice_get paths index) ≡ Some path

-- after this many steps up from a task with this path: the index of the task that is reached, and the
-- numbers that were passed, the last one first
pub record IsClimbed (rs : List Record) (tasks : List ℕ) (root : ℕ) (path : List ℕ) (steps index : ℕ)
    (numbers : List ℕ) : Type 0 where
  pub current : ℕ
  pub up : List ℕ
  pub passed : List ℕ
  pub here : slice_get tasks index ≡ Some current
  pub parts : path ≡ up ++ passed
  pub stands : HasPath rs root current up
  pub reversed : numbers ≡ reverse passed
  pub all : length passed ≡ steps

-- the view of a tree: the trace, the families of its tasks, and by index of the task in its own order its
-- path
pub record TreeView : Type 0 where
  pub trace : TraceView
  pub families : FamiliesView
  pub paths : List (Vec ℕ)

-- the tree is that of the records' tasks, by their own order
pub record IsTreeOf (rs : List Record) (tree : TreeView) : Type 0 where
  pub trace : tree.trace.records ≡ rs
  pub families : AreFamiliesOf rs tree.families
  pub paths : ArePaths (in_own_order rs) (own_family tree.families).tasks tree.paths
