-- A search for the tasks that the end of a region waits for.
use Rattle.std.specs.Prelude.{ℕ, ◌≡◌, ◌<◌, ◌↔◌, Bool, false, IsTrue, List, length, Some, slice_get}
use Rattle.std.specs.Prelude.{slice_index_or}
use Rattle.task_tree.specs.Lineage.{parent_index}
use Rattle.teams.specs.Teams.{TeamsView, IsTeams}
use Rattle.wait_coverage.specs.Waits.{IsAwaited, waiting}
use Rattle.wait_coverage.specs.declared.waits.Wait.{Wait}

pub record SearchView : Type 0 where
  pub teams : TeamsView
  pub wait : Wait

-- the task that waits is one of the run
pub record IsSearch (search : SearchView) : Type 0 where
  pub teams : IsTeams search.teams
  pub waits : waiting search.wait < length search.teams.run.family.tasks

-- the mark of the parent of the task at the index says whether the parent is waited for
abbrev pub IsMarkedAbove : SearchView → List Bool → ℕ → Type 0
IsMarkedAbove search marks index = (up parent : ℕ) → parent_index search.teams.run.family index ≡ Some up
    → slice_get search.teams.run.family.tasks up ≡ Some parent
    → IsTrue (slice_index_or marks up false)
    ↔ IsAwaited search.teams.run.records search.teams.run.family.tasks search.wait parent
