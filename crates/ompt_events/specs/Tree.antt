-- Which task created which (OpenMP 5.2, 1.2.5: child task, descendent task).
use Rattle.std.specs.Prelude.{ℕ, ◌≡◌, ◌==◌, List, [], ◌∷◌, ◌++◌, length, Option, Some, None, drop, slice_get}
use Rattle.std.specs.Prelude.{option_and_then, if◌then◌else◌}
use Rattle.std.specs.List.{filter_map}
use Rattle.ompt_events.specs.declared.records.Record.{Record}
use Rattle.ompt_events.specs.Records.{begun_root, created, creation}
use Rattle.ompt_events.specs.Places.{at, own_before}

-- an initial or implicit task, of which no task is the parent
abbrev pub IsRoot : List Record → ℕ → Type 0
IsRoot rs task = (i : ℕ) × (at begun_root rs i ≡ Some task)

-- a task that another task created
abbrev pub IsExplicit : List Record → ℕ → Type 0
IsExplicit rs task = (i : ℕ) × (at created rs i ≡ Some task)

-- the task is a child of the parent, which created it at the place i
abbrev pub IsCreatedAt : List Record → ℕ → ℕ → ℕ → Type 0
IsCreatedAt rs i parent task = at creation rs i ≡ Some (parent, task)

-- the parent created the task
abbrev pub IsParent : List Record → ℕ → ℕ → Type 0
IsParent rs parent task = (i : ℕ) × IsCreatedAt rs i parent task

-- the task's chain of parents reaches a root
pub data IsRooted (rs : List Record) : ℕ → Type 0 where
  root : {task : ℕ} → IsRoot rs task → IsRooted rs task
  child : (i : ℕ) {parent task : ℕ} → IsCreatedAt rs i parent task → IsRooted rs parent → IsRooted rs task

-- the children of the ancestor, and the children of its descendants
pub data IsDescendant (rs : List Record) (ancestor : ℕ) : ℕ → Type 0 where
  child : (i : ℕ) {task : ℕ} → IsCreatedAt rs i ancestor task → IsDescendant rs ancestor task
  deeper : (i : ℕ) {parent task : ℕ} → IsDescendant rs ancestor parent → IsCreatedAt rs i parent task
      → IsDescendant rs ancestor task

-- the child that the record creates for the task
abbrev pub child_at : List Record → ℕ → ℕ → Option ℕ
child_at rs parent i =
    option_and_then (λ (p : ℕ × ℕ). if p.0 == parent then Some p.1 else None) (at creation rs i)

-- the children that the task created before the place i, in the order in which it created them
abbrev pub children_before : List Record → ℕ → ℕ → List ℕ
children_before rs parent i = filter_map (child_at rs parent) (own_before rs parent i)

-- all children of the task: item n is the child with number n
abbrev pub children : List Record → ℕ → List ℕ
children rs parent = children_before rs parent (length rs)

-- the number of the child that the task creates at the place i: how many it created before
abbrev pub child_number : List Record → ℕ → ℕ → ℕ
child_number rs parent i = length (children_before rs parent i)

-- the children that the task created between the places begin and i
abbrev pub children_between : List Record → ℕ → ℕ → ℕ → List ℕ
children_between rs parent begin i = drop (child_number rs parent begin) (children_before rs parent i)

-- the task is the child of the parent with this number
abbrev pub IsChild : List Record → ℕ → ℕ → ℕ → Type 0
IsChild rs parent number task = slice_get (children rs parent) number ≡ Some task

-- the task is below the root at this path, the numbers of the children from the root down
pub data HasPath (rs : List Record) (root : ℕ) : ℕ → List ℕ → Type 0 where
  top : IsRoot rs root → HasPath rs root root []
  below : (number : ℕ) {parent task : ℕ} {path : List ℕ} → HasPath rs root parent path
      → IsChild rs parent number task → HasPath rs root task (path ++ number ∷ [])
