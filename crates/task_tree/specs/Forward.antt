-- The standings of tasks, while the tasks are visited in the order in which they are made.
use Rattle.std.specs.Prelude.{ℕ, ◌≡◌, ◌≤◌, ◌+◌, List, length, Option, Some, None, slice_get}
use Rattle.ompt_events.specs.declared.records.Record.{Record}
use Rattle.task_tree.specs.declared.roots.Standing.{Standing}
use Rattle.task_tree.specs.Roots.{StandsAt}

-- the task has this standing, and is at most this many steps below its root
pub record IsStood (rs : List Record) (most task : ℕ) (standing : Standing) : Type 0 where
  pub stands : StandsAt rs task standing
  pub shallow : standing.depth ≤ most

-- the standing of each of the first n tasks is known
pub record AreStandingsKnown (rs : List Record) (n : ℕ) (tasks : List ℕ)
    (roots : List (Option Standing)) : Type 0 where
  pub all : length roots ≡ n
  pub each : (index task : ℕ) (standing : Standing) → slice_get tasks index ≡ Some task
      → slice_get roots index ≡ Some (Some standing) → IsStood rs index task standing
  pub known : (index : ℕ) → slice_get roots index ≡ Some None → ⊥

-- one step below the task at the index
abbrev pub StandsBelow : List (Option Standing) → ℕ → Standing → Type 0
StandsBelow roots index standing =
    (above : Standing) × (slice_get roots index ≡ Some (Some above)) × (standing.depth ≡ above.depth + 1)
    × (standing.root ≡ above.root)
