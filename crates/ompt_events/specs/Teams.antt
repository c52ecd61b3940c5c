-- The team of a parallel region (OpenMP 5.2, 1.2.2 and 10.1).
use Rattle.std.specs.Prelude.{ℕ, ◌≡◌, ◌==◌, List, length, filter, Some, Contains}
use Rattle.std.specs.List.{filter_map, range_with_len}
use Rattle.ompt_events.specs.declared.records.Record.{Record}
use Rattle.ompt_events.specs.declared.records.Membership.{Membership}
use Rattle.ompt_events.specs.Records.{joined, begun_initial}
use Rattle.ompt_events.specs.Places.{at}

-- the members of the parallel region's team that began before the place i, in file order
abbrev pub members_before : List Record → ℕ → ℕ → List Membership
members_before rs parallel i =
    filter (λ (m : Membership). m.parallel == parallel) (filter_map (at joined rs) (range_with_len 0 i))

-- all members of the team
abbrev pub members : List Record → ℕ → List Membership
members rs parallel = members_before rs parallel (length rs)

-- the task is a member of a team, and not an initial task
abbrev pub IsMember : List Record → ℕ → Type 0
IsMember rs task = (i : ℕ) × (m : Membership) × (at joined rs i ≡ Some m) × (m.member ≡ task)

abbrev pub IsInitial : List Record → ℕ → Type 0
IsInitial rs task = (i : ℕ) × (at begun_initial rs i ≡ Some task)

-- the other task is in the task's team; an initial task is a team of one
pub data IsTeammate (rs : List Record) (task : ℕ) : ℕ → Type 0 where
  alone : IsInitial rs task → IsTeammate rs task task
  together : (parallel : ℕ) (own other : Membership) → Contains (members rs parallel) own
      → own.member ≡ task → Contains (members rs parallel) other → IsTeammate rs task other.member
