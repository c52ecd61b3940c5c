-- The same records in another order of lines, in which nothing changes that a task can see. They may give
-- other turns.
use Rattle.std.specs.Prelude.{ℕ, ◌≡◌, ◌<◌, ◌≤◌, true, List, length, Some, None, is_some}
use Rattle.ompt_events.specs.declared.records.Record.{Record}
use Rattle.ompt_events.specs.declared.records.Body.{Body}
use Rattle.ompt_events.specs.declared.records.Body.TheVariants.{TaskSchedule, ImplicitTask}
use Rattle.ompt_events.specs.declared.names.Endpoint.TheVariants.{End}
use Rattle.ompt_events.specs.Records.{joined}
use Rattle.ompt_events.specs.Places.{at, is_own}

-- what a record says, but for turns, and for the place in a team where a task of a team ends
abbrev pub untold : Body → Body
untold (TaskSchedule status turns prior next claimed) = TaskSchedule status None prior next claimed
untold (ImplicitTask End actual index flags parallel task) = ImplicitTask End 0 0 flags parallel task
untold body = body

-- the records at the places say the same, but for these
abbrev pub SayAlike : List Record → ℕ → List Record → ℕ → Type 0
SayAlike rs i ss j = at (λ body. Some (untold body)) rs i ≡ at (λ body. Some (untold body)) ss j

-- the record at each place i of rs is at the place `to i` of ss, and that at j of ss is at `back j` of rs;
-- the records of each task are in the same order, and so are those at which members of teams begin
pub record IsRenaming (rs ss : List Record) (to back : ℕ → ℕ) : Type 0 where
  pub to_within : (i : ℕ) → i < length rs → to i < length ss
  pub to_past : (i : ℕ) → length rs ≤ i → length ss ≤ to i
  pub back_within : (j : ℕ) → j < length ss → back j < length rs
  pub back_to : (i : ℕ) → i < length rs → back (to i) ≡ i
  pub to_back : (j : ℕ) → j < length ss → to (back j) ≡ j
  pub alike : (i : ℕ) → i < length rs → SayAlike ss (to i) rs i
  pub own_rise : (task i k : ℕ) → is_own rs task i ≡ true → is_own rs task k ≡ true → i < k → to i < to k
  pub members_rise : (i k : ℕ) → is_some (at joined rs i) ≡ true → is_some (at joined rs k) ≡ true → i < k
      → to i < to k
