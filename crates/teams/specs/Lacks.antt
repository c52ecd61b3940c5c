-- The members that show that their team lacks a member, found without a stop at the first.
use Rattle.std.specs.Prelude.{ℕ, ◌≡◌, ◌≢◌, ◌<◌, ◌≤◌, ◌⊎◌, ◌↔◌, List, length, Bool, true, false, Option}
use Rattle.std.specs.Prelude.{Some, None, Contains, IsTrue, is_some, slice_get}
use Rattle.std.specs.Global.{Vec}
use Rattle.ompt_events.specs.declared.records.Record.{Record}
use Rattle.ompt_events.specs.declared.records.Membership.{Membership}
use Rattle.ompt_events.specs.Records.{joined}
use Rattle.ompt_events.specs.Places.{at}
use Rattle.ompt_events.specs.Causes.{IsShort}
use Rattle.ompt_events.specs.Teams.{members, members_before}
use Rattle.task_tree.specs.Runs.{RunView}
use Rattle.teams.specs.declared.lacks.Seen.{Seen}
use Rattle.teams.specs.Members.{IsLead, IsJoining}
use Rattle.teams.specs.Rosters.{TakesSlot}

-- a member begins there that shows a team which lacks a member
abbrev pub LacksThere : List Record → ℕ → Type 0
LacksThere rs i = (is_some (at joined rs i) ≡ true) × IsShort rs i

-- by number of each of the first n records whether one does
pub record AreLacks (rs : List Record) (n : ℕ) (lacks : List Bool) : Type 0 where
  pub all : length lacks ≡ n
  pub each : (i : ℕ) (lack : Bool) → slice_get lacks i ≡ Some lack → IsTrue lack ↔ LacksThere rs i

-- ---- what the members so far say

-- one of the members has the number
abbrev pub HasNumber : List Membership → ℕ → Type 0
HasNumber earlier number = (e : Membership) × Contains earlier e × (e.index ≡ number)

-- one of the members names another size of the team
abbrev pub HasOtherSize : List Membership → ℕ → Type 0
HasOtherSize earlier actual = (e : Membership) × Contains earlier e × (e.actual ≢ actual)

-- there are as many slots as the team has members, and those are taken whose numbers earlier members have
pub record AreNumbersTaken (team earlier : List Membership) (slots : List (Option ℕ)) : Type 0 where
  pub long : length slots ≡ length team
  pub taken : (number index : ℕ) → slice_get slots number ≡ Some (Some index) → HasNumber earlier number
  pub free : (number : ℕ) → slice_get slots number ≡ Some None → HasNumber earlier number → ⊥

-- the same of each team, by its members of the first n records
pub record AreTaken (rs : List Record) (n : ℕ) (tasks : List ℕ)
    (rosters : List (Vec (Option ℕ))) : Type 0 where
  pub leads : (parallel lead : ℕ) → IsLead rs tasks parallel lead → lead < length rosters
  pub each : (parallel lead : ℕ) (roster : Vec (Option ℕ)) → IsLead rs tasks parallel lead
      → slice_get rosters lead ≡ Some roster
      → AreNumbersTaken (members rs parallel) (members_before rs parallel n) roster.items

-- at the number of each team whether one of its members by the first n records names another size than the
-- first
pub record AreMixed (rs : List Record) (n : ℕ) (tasks : List ℕ) (mixed : List Bool) : Type 0 where
  pub all : length mixed ≡ length tasks
  pub each : (parallel lead : ℕ) (differ : Bool) (leads : IsLead rs tasks parallel lead)
      → slice_get mixed lead ≡ Some differ
      → IsTrue differ ↔ HasOtherSize (members_before rs parallel n) leads.first.actual

-- both
pub record AreSeen (rs : List Record) (n : ℕ) (tasks : List ℕ) (seen : Seen) : Type 0 where
  pub taken : AreTaken rs n tasks seen.rosters.items
  pub mixed : AreMixed rs n tasks seen.mixed.items

-- ---- one member

-- the member begins there, in the team of this lead, and its task is at the index
pub record IsJoinedBy (run : RunView) (i : ℕ) (m : Membership) (index lead : ℕ) : Type 0 where
  pub joining : IsJoining run i m lead
  pub indexed : slice_get run.family.tasks index ≡ Some m.member

-- the number is taken, or there is no slot for it; or the slot was empty and is now that of the index
abbrev pub FindsTaken : List (Option ℕ) → List (Option ℕ) → ℕ → ℕ → Bool → Type 0
FindsTaken old new number index true =
    (new ≡ old) × ((length old ≤ number) ⊎ ((other : ℕ) × (slice_get old number ≡ Some (Some other))))
FindsTaken old new number index false = TakesSlot old new number index true

-- a team of this many members has not the size that the member names, or the member's number is not below it
abbrev pub IsMisfit : ℕ → Membership → Type 0
IsMisfit count m = (count < m.actual) ⊎ (m.actual ≤ m.index)
