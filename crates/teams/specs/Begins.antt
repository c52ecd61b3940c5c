-- The places at which each task begins barriers, while the records are visited.
use Rattle.std.specs.Prelude.{ℕ, ◌≡◌, ◌≢◌, ◌<◌, ◌≤◌, List, [], ◌∷◌, ◌++◌, length, Some, slice_get}
use Rattle.std.specs.Global.{Vec}
use Rattle.ompt_events.specs.declared.records.Record.{Record}
use Rattle.task_states.specs.Rows.{row_at}
use Rattle.teams.specs.Teams.{IsNumberOf}

-- for each of the first n records that begins a barrier: how many its task began before
pub record AreBeginsNumbered (rs : List Record) (n : ℕ) (numbers : List ℕ) : Type 0 where
  pub all : length numbers ≡ length rs
  pub each : (i number : ℕ) → i < n → slice_get numbers i ≡ Some number → IsNumberOf rs i number

-- the place is added at the end of the row with this index, and the other rows have what they had
pub record IsBeginAdded (before after : List (Vec ℕ)) (index place : ℕ) : Type 0 where
  pub here : row_at after index ≡ row_at before index ++ place ∷ []
  pub others : (other : ℕ) → other ≢ index → row_at after other ≡ row_at before other
  pub few : (most : ℕ) → length before ≤ most → index < most → length after ≤ most
