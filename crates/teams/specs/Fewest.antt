-- The least number of barriers that a member of a team begins, by the tables of all tasks.
use Rattle.std.specs.Prelude.{ℕ, ◌≡◌, ◌<◌, ◌≤◌, ◌⊎◌, List, length, Option, Some, slice_get}
use Rattle.std.specs.Global.{Vec}
use Rattle.task_states.specs.Rows.{row_at}

-- a member of the team, of the first n tasks, begins at most this many barriers
pub record IsCountReached (teams : List (Option ℕ)) (begins : List (Vec ℕ)) (n team count : ℕ) : Type 0 where
  pub index : ℕ
  pub before : index < n
  pub in_team : slice_get teams index ≡ Some (Some team)
  pub few : length (row_at begins index) ≤ count

-- by number of the team the least number of barriers that a member, of the first n tasks, begins; 2^32 - 1
-- or more if there is no such member
pub record AreFewest (teams : List (Option ℕ)) (begins : List (Vec ℕ)) (n : ℕ)
    (fewest : List ℕ) : Type 0 where
  pub all : length fewest ≡ length teams
  pub low : (index team count : ℕ) → index < n → slice_get teams index ≡ Some (Some team)
      → slice_get fewest team ≡ Some count → count ≤ length (row_at begins index)
  pub reached : (team count : ℕ) → slice_get fewest team ≡ Some count
      → (4294967295 ≤ count) ⊎ IsCountReached teams begins n team count

-- the number of each team is an index
abbrev pub AreTeamsWithin : List (Option ℕ) → Type 0
AreTeamsWithin teams = (index team : ℕ) → slice_get teams index ≡ Some (Some team) → team < length teams

-- no row is longer than that
abbrev pub AreShort : List (Vec ℕ) → ℕ → Type 0
AreShort rows most = (index : ℕ) → length (row_at rows index) ≤ most
