-- Which earlier siblings a task waits for (OpenMP 5.2, 15.9.5: the depend clause).
use Rattle.std.specs.Prelude.{ℕ, ◌≡◌, ◌<◌, true, List, Contains, Some}
use Rattle.ompt_events.specs.declared.records.Record.{Record}
use Rattle.ompt_events.specs.declared.deps.Dep.{Dep}
use Rattle.ompt_events.specs.Names.{conflict}
use Rattle.ompt_events.specs.Records.{dependences}
use Rattle.ompt_events.specs.Places.{at}
use Rattle.ompt_events.specs.Tree.{IsChild}

-- the task has this dependence
abbrev pub DependsOn : List Record → ℕ → Dep → Type 0
DependsOn rs task dep =
    (i : ℕ) × (list : List Dep) × (at dependences rs i ≡ Some (task, list)) × Contains list dep

-- the predecessor is a sibling that was created before the task, with an item that conflicts
-- with one of the task's at the same location
pub record IsPredecessor (rs : List Record) (task predecessor : ℕ) : Type 0 where
  pub parent : ℕ
  pub number : ℕ
  pub is_child : IsChild rs parent number task
  pub earlier : ℕ
  pub sibling : IsChild rs parent earlier predecessor
  pub smaller : earlier < number
  pub item : Dep
  pub depends : DependsOn rs task item
  pub other : Dep
  pub other_depends : DependsOn rs predecessor other
  pub same_location : other.var ≡ item.var
  pub conflicting : conflict other.kind item.kind ≡ true
