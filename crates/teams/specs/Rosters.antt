-- The slots of the members of a team, by their numbers, while the records are visited.
use Rattle.std.specs.Prelude.{ℕ, zero, suc, ◌≡◌, ◌<◌, ◌≤◌, ◌+◌, ◌⊎◌, ◌∷◌, [], List, length, Bool, true, false}
use Rattle.std.specs.Prelude.{Option, Some, None, Contains, is_some, slice_get, slice_set, replicate}
use Rattle.std.specs.Global.{Vec}
use Rattle.ompt_events.specs.declared.records.Record.{Record}
use Rattle.ompt_events.specs.declared.records.Membership.{Membership}
use Rattle.ompt_events.specs.Records.{joined}
use Rattle.ompt_events.specs.Places.{at}
use Rattle.ompt_events.specs.Teams.{IsInitial, members, members_before}
use Rattle.ompt_events.specs.Causes.{IsShort}
use Rattle.teams.specs.Members.{IsLead}

-- how many slots are empty
abbrev pub empty_slots : List (Option ℕ) → ℕ
empty_slots [] = zero
empty_slots (None ∷ slots) = suc (empty_slots slots)
empty_slots (Some index ∷ slots) = empty_slots slots

-- the slot of this number is that of a member that begins by the first n records
pub record IsSlotOf (rs : List Record) (n : ℕ) (tasks : List ℕ) (parallel number index : ℕ) : Type 0 where
  pub place : ℕ
  pub m : Membership
  pub before : place < n
  pub joins : at joined rs place ≡ Some m
  pub same : m.parallel ≡ parallel
  pub numbered : m.index ≡ number
  pub here : slice_get tasks index ≡ Some m.member

-- there are as many slots as members, and each member that begins by the first n records has its own
pub record AreSlots (rs : List Record) (n : ℕ) (tasks : List ℕ) (parallel : ℕ)
    (slots : List (Option ℕ)) : Type 0 where
  pub long : length slots ≡ length (members rs parallel)
  pub rest : empty_slots slots + length (members_before rs parallel n) ≡ length slots
  pub enrolled : (k index : ℕ) (m : Membership) → k < n → at joined rs k ≡ Some m → m.parallel ≡ parallel
      → slice_get tasks index ≡ Some m.member → slice_get slots m.index ≡ Some (Some index)
  pub only : (number index : ℕ) → slice_get slots number ≡ Some (Some index)
      → IsSlotOf rs n tasks parallel number index

-- the teams of the first n tasks have numbers below the count
abbrev pub AreTeamsBelow : List (Option ℕ) → ℕ → ℕ → Type 0
AreTeamsBelow teams n count =
    (index team : ℕ) → index < n → slice_get teams index ≡ Some (Some team) → team < count

-- at the number of each team, the slots of its members; an initial task has its own, and any other number
-- has none
pub record AreEnrolled (rs : List Record) (n : ℕ) (tasks : List ℕ)
    (rosters : List (Vec (Option ℕ))) : Type 0 where
  pub leads : (parallel lead : ℕ) → IsLead rs tasks parallel lead → lead < length rosters
  pub initials : (index task : ℕ) → slice_get tasks index ≡ Some task → IsInitial rs task
      → index < length rosters
  pub each : (parallel lead : ℕ) (roster : Vec (Option ℕ)) → IsLead rs tasks parallel lead
      → slice_get rosters lead ≡ Some roster → AreSlots rs n tasks parallel roster.items
  pub own : (index task : ℕ) (roster : Vec (Option ℕ)) → slice_get tasks index ≡ Some task
      → IsInitial rs task → slice_get rosters index ≡ Some roster → roster.items ≡ Some index ∷ []
  pub other : (index : ℕ) (roster : Vec (Option ℕ)) → slice_get rosters index ≡ Some roster
      → (roster.items ≡ []) ⊎ (((parallel : ℕ) × IsLead rs tasks parallel index)
      ⊎ ((task : ℕ) × (slice_get tasks index ≡ Some task) × IsInitial rs task))

-- before the first record: the slot of an initial task, or as many empty ones as the team has members
pub data AreFirstSlots (rs : List Record) (tasks sizes : List ℕ) (index : ℕ)
    (slots : List (Option ℕ)) : Type 0 where
  own_slot : (task : ℕ) → slice_get tasks index ≡ Some task → IsInitial rs task
      → slots ≡ replicate 1 (Some index) → AreFirstSlots rs tasks sizes index slots
  empty : (task size : ℕ) → slice_get tasks index ≡ Some task → (IsInitial rs task → ⊥)
      → slice_get sizes index ≡ Some size → slots ≡ replicate size None
      → AreFirstSlots rs tasks sizes index slots

-- each of the first n tasks has these slots
pub record AreFirstRosters (rs : List Record) (tasks sizes : List ℕ) (n : ℕ)
    (rosters : List (Vec (Option ℕ))) : Type 0 where
  pub all : length rosters ≡ n
  pub each : (index : ℕ) (roster : Vec (Option ℕ)) → slice_get rosters index ≡ Some roster
      → AreFirstSlots rs tasks sizes index roster.items

-- the member's number is below the size that it says; the team has at least that many members; each earlier
-- member says the same size
pub record FitsTeam (rs : List Record) (i : ℕ) (m : Membership) : Type 0 where
  pub inside : m.index < m.actual
  pub enough : m.actual ≤ length (members rs m.parallel)
  pub one_size : (e : Membership) → Contains (members_before rs m.parallel i) e → e.actual ≡ m.actual

abbrev pub IsFitting : List Record → ℕ → Membership → Bool → Type 0
IsFitting rs i m true = FitsTeam rs i m
IsFitting rs i m false = IsShort rs i

-- the same, and no earlier member has its number
pub record HasSlot (rs : List Record) (i : ℕ) (m : Membership) : Type 0 where
  pub fits : FitsTeam rs i m
  pub alone : (e : Membership) → Contains (members_before rs m.parallel i) e → e.index ≡ m.index → ⊥

-- the member that begins there, if one does, fits its team, and no earlier member has its number
abbrev pub LacksNothing : List Record → ℕ → Type 0
LacksNothing rs i = (m : Membership) → at joined rs i ≡ Some m → HasSlot rs i m

-- no member that begins before the record shows a team that lacks a member
abbrev pub IsWholeBefore : List Record → ℕ → Type 0
IsWholeBefore rs i = (k : ℕ) → k < i → is_some (at joined rs k) ≡ true → IsShort rs k → ⊥

-- the slot was empty and is now that of the index, or it is taken and the slots are as they were
abbrev pub TakesSlot : List (Option ℕ) → List (Option ℕ) → ℕ → ℕ → Bool → Type 0
TakesSlot old new number index true =
    (slice_get old number ≡ Some None) × (new ≡ slice_set old number (Some index))
TakesSlot old new number index false =
    (other : ℕ) × (slice_get old number ≡ Some (Some other)) × (new ≡ old)

-- a member begins there that shows a team which lacks a member; or it does not, and has its slot
abbrev pub IsEnrolling : List Record → ℕ → List ℕ → List (Vec (Option ℕ)) → Bool → Type 0
IsEnrolling rs i tasks rosters true = (is_some (at joined rs i) ≡ true) × IsShort rs i
IsEnrolling rs i tasks rosters false = LacksNothing rs i × AreEnrolled rs (i + 1) tasks rosters
