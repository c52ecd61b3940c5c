-- The search for the first place in the file at which a record shows a team or a barrier that lacks a
-- member.
use Rattle.std.specs.Prelude.{ℕ, ◌≡◌, ◌<◌, true, List, length, Option, Some, None, MatchOption, is_some}
use Rattle.std.specs.Prelude.{slice_get}
use Rattle.std.specs.Global.{Vec}
use Rattle.ompt_events.specs.declared.cause.Cause.TheVariants.{TeamShort}
use Rattle.ompt_events.specs.Records.{joined}
use Rattle.ompt_events.specs.Places.{at}
use Rattle.ompt_events.specs.Causes.{IsFreeOf, IsShort}
use Rattle.task_tree.specs.Own.{OwnView, IsFirstPlaceWith}
use Rattle.teams.specs.Missed.{IsBarrierMissed}
use Rattle.teams.specs.Rosters.{AreEnrolled, IsWholeBefore}

-- the record with this number, which is at the place in the file, is the first in the tasks' own order at
-- which a member begins that shows a team which lacks a member
pub record IsFirstLack (own : OwnView) (place : ℕ) : Type 0 where
  pub number : ℕ
  pub stands : slice_get own.places number ≡ Some place
  pub joins : is_some (at joined own.run.records number) ≡ true
  pub short : IsShort own.run.records number
  pub first : IsWholeBefore own.run.records number

-- each member has its slot, and none shows such a team; or this is the first place at which one does
abbrev pub AreAllEnrolled : OwnView → List (Vec (Option ℕ)) → Option ℕ → Type 0
AreAllEnrolled own rosters None =
    IsWholeBefore own.run.records (length own.run.records)
    × AreEnrolled own.run.records (length own.run.records) own.run.family.tasks rosters
AreAllEnrolled own rosters (Some place) = IsFirstLack own place

-- a barrier ends at the place in the file that a member of the team doesn't begin
abbrev pub IsMissedAt : OwnView → ℕ → Type 0
IsMissedAt own place =
    (number : ℕ) × (slice_get own.places number ≡ Some place) × IsBarrierMissed own.run.records number

-- none ends before the place
abbrev pub IsMissedNowhere : OwnView → ℕ → Type 0
IsMissedNowhere own place = (k : ℕ) → k < place → IsMissedAt own k → ⊥

-- it is the first such place, and before the end
pub record IsFirstMissedBarrier (own : OwnView) (end place : ℕ) : Type 0 where
  pub before : place < end
  pub missed : IsMissedAt own place
  pub first : IsMissedNowhere own place

-- the first such place before the end was found, or that there is none
abbrev pub FindsMissed : OwnView → ℕ → Option ℕ → Type 0
FindsMissed own end found = MatchOption found (IsMissedNowhere own end) (IsFirstMissedBarrier own end)

-- no record shows a team or a barrier that lacks a member, and each member has its slot; or this is the
-- first place in the file at which one does
abbrev pub IsSearched : OwnView → List (Vec (Option ℕ)) → Option ℕ → Type 0
IsSearched own rosters None =
    IsFreeOf own.run.records TeamShort
    × AreEnrolled own.run.records (length own.run.records) own.run.family.tasks rosters
IsSearched own rosters (Some place) = IsFirstPlaceWith own TeamShort place
