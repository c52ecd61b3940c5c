-- The parent and the depth of the task at an index, as the tables of a family have them.
use Rattle.std.specs.Prelude.{ℕ, ◌≡◌, List, Option, Some, slice_get, option_map}
use Rattle.std.specs.Option.{option_map_or, option_and_then}
use Rattle.ompt_events.specs.declared.records.Record.{Record}
use Rattle.ompt_events.specs.Tree.{IsParent}
use Rattle.task_tree.specs.declared.links.Link.{Link}
use Rattle.task_tree.specs.declared.roots.Standing.{Standing}
use Rattle.task_tree.specs.Family.{FamilyView}

-- the index of the task's parent
abbrev pub parent_index : FamilyView → ℕ → Option ℕ
parent_index family index = option_and_then (λ o. option_map (λ (l : Link). l.parent) o)
    (slice_get family.links index)

-- how many steps the task is below its root; 0 if no task has the index
abbrev pub depth_in : FamilyView → ℕ → ℕ
depth_in family index =
    option_map_or (λ o. option_map_or (λ (s : Standing). s.depth) o 0) (slice_get family.roots index) 0

-- the index is that of the task's parent
abbrev pub IsParentAt : List Record → List ℕ → ℕ → ℕ → Type 0
IsParentAt rs tasks up task = (parent : ℕ) × (slice_get tasks up ≡ Some parent) × IsParent rs parent task
