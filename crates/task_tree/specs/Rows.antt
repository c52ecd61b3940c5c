-- The rows of children, with one row for each task.
use Rattle.std.specs.Prelude.{ℕ, ◌≡◌, ◌<◌, ◌+◌, List, length, Option, Some, slice_get, slice_index}
use Rattle.ompt_events.specs.declared.records.Record.{Record}
use Rattle.ompt_events.specs.Tree.{children}
use Rattle.index_tables.specs.Rows.{RowsView, row}
use Rattle.task_tree.specs.declared.links.Link.{Link}

-- each link has one of the numbers that are counted for its parent
abbrev pub AreCounted : List ℕ → List (Option Link) → Type 0
AreCounted counts links =
    (index : ℕ) (link : Link) → slice_get links index ≡ Some (Some link) → (link.parent < length counts)
    × (link.number < slice_index counts link.parent)

-- each link has a place in its parent's row
abbrev pub AreFitting : List ℕ → List (Option Link) → Type 0
AreFitting offsets links =
    (index : ℕ) (link : Link) → slice_get links index ≡ Some (Some link) → (link.parent + 1 < length offsets)
    × (slice_index offsets link.parent + link.number < slice_index offsets (link.parent + 1))

-- no two tasks are the same child of one parent
abbrev pub AreSingle : List (Option Link) → Type 0
AreSingle links =
    (one other : ℕ) (link : Link) → slice_get links one ≡ Some (Some link)
    → slice_get links other ≡ Some (Some link) → one ≡ other

-- the first n tasks are in the rows of their parents, at their numbers
abbrev pub AreFilled : ℕ → List ℕ → List (Option Link) → List ℕ → List ℕ → Type 0
AreFilled n tasks links offsets ids =
    (index task : ℕ) (link : Link) → index < n → slice_get tasks index ≡ Some task
    → slice_get links index ≡ Some (Some link)
    → slice_get ids (slice_index offsets link.parent + link.number) ≡ Some task

-- the row of each task is the list of its children
pub record AreChildren (rs : List Record) (tasks : List ℕ) (rows : RowsView) : Type 0 where
  pub all : length rows.offsets ≡ length tasks + 1
  pub each : (index task : ℕ) → slice_get tasks index ≡ Some task → row rows index ≡ children rs task
