-- The states of all tasks after all records.
use Rattle.std.specs.Prelude.{ℕ, ◌≡◌, List, length, Option, Some, None, slice_get}
use Rattle.ompt_events.specs.declared.records.Record.{Record}
use Rattle.ompt_events.specs.declared.state.State.{State}
use Rattle.ompt_events.specs.Causes.{IsMade}
use Rattle.ompt_events.specs.States.{nature_of, all_moves_of, state_of}
use Rattle.task_tree.specs.Runs.{RunView, IsRun}
use Rattle.task_tree.specs.Families.{IsOwnOf}
use Rattle.task_states.specs.Regions.{RegionsView, AreRegions}

-- what clauses see of states: the run of the file, by index of the task its state, and the regions in the
-- tasks' own order
pub record StatesView : Type 0 where
  pub run : RunView
  pub states : List (Option State)
  pub regions : RegionsView

-- each task's state is that after all its moves
abbrev pub AreStates : List Record → List ℕ → List (Option State) → Type 0
AreStates rs tasks states =
    (n task : ℕ) → slice_get tasks n ≡ Some task
    → slice_get states n ≡ Some (state_of (nature_of rs task) (all_moves_of rs task))

-- the states and the regions are those of the run
pub record IsStates (states : StatesView) : Type 0 where
  pub run : IsRun states.run
  pub all : length states.states ≡ length states.run.family.tasks
  pub each : AreStates states.run.records states.run.family.tasks states.states
  pub own : IsOwnOf states.run.records states.regions.own
  pub regions : AreRegions states.regions

-- the state after all moves of a task that a record makes; of any other task there is none
abbrev pub IsLastState : List Record → ℕ → Option State → Type 0
IsLastState rs task found =
    (IsMade rs task → found ≡ state_of (nature_of rs task) (all_moves_of rs task))
    × ((IsMade rs task → ⊥) → found ≡ None)
