-- What is kept of teams for the ends of barriers.
use Rattle.std.specs.Prelude.{ℕ, ◌≡◌, ◌≢◌, ◌<◌, ◌≤◌, ◌+◌, ◌-◌, ◌^◌, ◌==◌, ◌⊎◌, Bool, true, false, List, []}
use Rattle.std.specs.Prelude.{◌∷◌, ◌++◌}
use Rattle.std.specs.Prelude.{length, filter, min, max, Option, Some, None, nat_lt, nat_eq, Contains}
use Rattle.std.specs.Prelude.{if◌then◌else◌}
use Rattle.std.specs.Option.{option_map_or}
use Rattle.std.specs.List.{list_any}
use Rattle.std.specs.HashMap.{get}
use Rattle.ompt_events.specs.declared.records.Record.{Record}
use Rattle.ompt_events.specs.declared.records.Membership.{Membership}
use Rattle.ompt_events.specs.declared.names.SyncKind.{SyncKind}
use Rattle.ompt_events.specs.declared.names.Endpoint.{Endpoint}
use Rattle.ompt_events.specs.declared.cause.Cause.TheVariants.{CreatedTwice}
use Rattle.ompt_events.specs.Records.{made, joined, begun_initial, ended_root, region}
use Rattle.ompt_events.specs.Places.{own_before, seen_at}
use Rattle.ompt_events.specs.Tree.{IsCreatedAt}
use Rattle.ompt_events.specs.Teams.{members, IsInitial, IsTeammate}
use Rattle.ompt_events.specs.Regions.{is_barrier, barrier_begun, begins_barrier, IsRegion, IsBarrierBegin}
use Rattle.ompt_events.specs.Causes.{IsFreeOf}
use Rattle.online.specs.declared.kin.Kin.{Kin}
use Rattle.online.specs.declared.kin.Place.{Place}
use Rattle.online.specs.declared.phase.Phase.{Phase}
use Rattle.online.specs.declared.team.Team.{Team}
use Rattle.online.specs.Waits.{no_tasks, with_task, without_task, IsScopeOf, IsSettled, is_kept}
use Rattle.online.specs.Waits.{ChangesGroups, IsWaitsOf, MayFollow, IsCoverComplete}

-- ---- what is kept of a task

-- a new task is told its team, that of its parent, and how many barriers the parent has begun
pub record IsTold (team parent_team : Option ℕ) (phase : ℕ) (kin : Kin) : Type 0 where
  pub team_is : kin.team ≡ team
  pub parent_team_is : kin.parent_team ≡ parent_team
  pub phase_is : kin.phase ≡ phase
  pub none : kin.barriers ≡ 0

-- where a child stands that the task creates
pub record IsPlaceIn (kin : Kin) (place : Place) : Type 0 where
  pub team : place.team ≡ kin.team
  pub barriers : place.barriers ≡ kin.barriers
  pub group : place.group ≡ length kin.groups.items

-- the task begins a barrier
pub record CountsBarrier (old new : Kin) : Type 0 where
  pub rest : ChangesGroups old new
  pub groups : new.groups.items ≡ old.groups.items
  pub team : new.team ≡ old.team
  pub parent_team : new.parent_team ≡ old.parent_team
  pub phase : new.phase ≡ old.phase
  pub barriers : new.barriers ≡ min (old.barriers + 1) (2 ^ 64 - 1)

-- ---- what is kept of a team

-- nothing of a phase
abbrev pub no_phase : Phase
no_phase = record { scope = no_tasks; begun = 0; ended = 0 }

-- of the phase with this number
abbrev pub phase_of : Team → ℕ → Option Phase
phase_of team = get nat_eq team.phases

abbrev pub phase_in : Team → ℕ → Phase
phase_in team number = option_map_or (λ (p : Phase). p) (phase_of team number) no_phase

-- with one more child, which is not settled
abbrev pub with_child : Phase → Phase
with_child p = record { scope = with_task p.scope; begun = p.begun; ended = p.ended }

-- where one of the children is settled from the length on
abbrev pub without_child : ℕ → Phase → Phase
without_child length p = record { scope = without_task length p.scope; begun = p.begun; ended = p.ended }

-- where one more member begins the barrier behind it
abbrev pub with_begin : Phase → Phase
with_begin p = record { scope = p.scope; begun = min (p.begun + 1) (2 ^ 64 - 1); ended = p.ended }

-- where one more ends it
abbrev pub with_end : Phase → Phase
with_end p = record { scope = p.scope; begun = p.begun; ended = min (p.ended + 1) (2 ^ 64 - 1) }

-- where the phase is over, and all that was created up to it is settled from the length on
abbrev pub over_from : ℕ → Phase → Phase
over_from length p = record {
  scope = record { left = 0; greatest = length };
  begun = p.begun;
  ended = p.ended;
}

-- how many members there are, have begun and have ended, and which phases are over, stays
pub record KeepsTeam (old new : Team) : Type 0 where
  pub actual : new.actual ≡ old.actual
  pub joined : new.joined ≡ old.joined
  pub ended : new.ended ≡ old.ended
  pub over : new.over ≡ old.over
  pub greatest : new.greatest ≡ old.greatest

-- and what is kept of each phase
pub record IsSameTeam (old new : Team) : Type 0 where
  pub keeps : KeepsTeam old new
  pub phases : (number : ℕ) → phase_of new number ≡ phase_of old number

-- of one phase something else is kept
pub record PutsPhase (number : ℕ) (phase : Phase) (old new : Team) : Type 0 where
  pub keeps : KeepsTeam old new
  pub here : phase_of new number ≡ Some phase
  pub others : (other : ℕ) → other ≢ number → phase_of new other ≡ phase_of old other

-- the team of this size, of a first member
pub record IsFirst (size : ℕ) (team : Team) : Type 0 where
  pub actual : team.actual ≡ size
  pub joined : team.joined ≡ 1
  pub ended : team.ended ≡ 0
  pub over : team.over ≡ 0
  pub none : (number : ℕ) → phase_of team number ≡ None

-- a further member begins, by which the team has this size
pub record HasJoined (size : ℕ) (old new : Team) : Type 0 where
  pub actual : new.actual ≡ max old.actual size
  pub joined : new.joined ≡ min (old.joined + 1) (2 ^ 64 - 1)
  pub ended : new.ended ≡ old.ended
  pub over : new.over ≡ old.over
  pub greatest : new.greatest ≡ old.greatest
  pub phases : (number : ℕ) → phase_of new number ≡ phase_of old number

-- a member has ended
pub record HasLeft (old new : Team) : Type 0 where
  pub actual : new.actual ≡ old.actual
  pub joined : new.joined ≡ old.joined
  pub ended : new.ended ≡ min (old.ended + 1) (2 ^ 64 - 1)
  pub over : new.over ≡ old.over
  pub greatest : new.greatest ≡ old.greatest
  pub phases : (number : ℕ) → phase_of new number ≡ phase_of old number

-- a member creates a child in the phase, which is not over
pub record IsCreatedIn (number : ℕ) (old new : Team) : Type 0 where
  pub going : old.over ≤ number
  pub counted : PutsPhase number (with_child (phase_in old number)) old new

-- such a child is settled from the length on
pub record IsSettledIn (number length : ℕ) (old new : Team) : Type 0 where
  pub keeps : KeepsTeam old new
  pub here : old.over ≤ number → (p : Phase) → phase_of old number ≡ Some p
      → phase_of new number ≡ Some (without_child length p)
  pub absent : phase_of old number ≡ None → phase_of new number ≡ None
  pub over : number < old.over → phase_of new number ≡ phase_of old number
  pub others : (other : ℕ) → other ≢ number → phase_of new other ≡ phase_of old other

-- a member begins the barrier behind the phase; where that is over and nothing is kept of it, nothing changes
pub record CountsBegin (number : ℕ) (old new : Team) : Type 0 where
  pub keeps : KeepsTeam old new
  pub known : (was : Phase) → phase_of old number ≡ Some was → phase_of new number ≡ Some (with_begin was)
  pub fresh : phase_of old number ≡ None → old.over ≤ number
      → phase_of new number ≡ Some (with_begin no_phase)
  pub gone : phase_of old number ≡ None → number < old.over → phase_of new number ≡ None
  pub others : (other : ℕ) → other ≢ number → phase_of new other ≡ phase_of old other

-- what is kept of a phase that is over may go; of each other stays what is counted of children and of begins
pub record KeepsPhases (old new : Team) : Type 0 where
  pub keeps : KeepsTeam old new
  pub each : (number : ℕ) (p : Phase) → phase_of new number ≡ Some p
      → (was : Phase) × (phase_of old number ≡ Some was) × (p.scope ≡ was.scope) × (p.begun ≡ was.begun)
  pub going : (number : ℕ) → old.over ≤ number → (phase_in new number).scope ≡ (phase_in old number).scope

-- the next phase is over, in which no child is left: what is kept of it tells of all phases up to it
pub record EndsPhase (old new : Team) : Type 0 where
  pub actual : new.actual ≡ old.actual
  pub joined : new.joined ≡ old.joined
  pub ended : new.ended ≡ old.ended
  pub over : new.over ≡ old.over + 1
  pub none_left : (phase_in old old.over).scope.left ≡ 0
  pub greatest : new.greatest ≡ max old.greatest (phase_in old old.over).scope.greatest
  pub here : phase_of new old.over ≡ Some (over_from new.greatest (phase_in old old.over))
  pub others : (other : ℕ) → other ≢ old.over → phase_of new other ≡ phase_of old other

-- the phase is kept, and from the length on all is settled that is counted for it
abbrev pub IsSettledAt : ℕ → ℕ → Team → Type 0
IsSettledAt number length team =
    (p : Phase) × (phase_of team number ≡ Some p) × (p.scope.greatest ≤ length)

-- ---- what the records leave of them

-- how many barriers the task began before the place i
abbrev pub phase_at : List Record → ℕ → ℕ → ℕ
phase_at rs task i = length (filter (begins_barrier rs task) (own_before rs task i))

-- how many of the members have begun the barrier with this number
abbrev pub ahead : List Record → List Membership → ℕ → ℕ
ahead rs [] number = 0
ahead rs (m ∷ ms) number =
    (if nat_lt number (phase_at rs m.member (length rs)) then 1 else 0) + ahead rs ms number

-- the record ends the task as a root
abbrev pub ends_task : ℕ → Record → Bool
ends_task task r = option_map_or (λ t. t == task) (ended_root r.body) false

-- one of the records does
abbrev pub is_gone : List Record → ℕ → Bool
is_gone rs task = list_any (ends_task task) rs

-- how many of the members have ended
abbrev pub gone_of : List Record → List Membership → ℕ
gone_of rs ms = length (filter (λ (m : Membership). is_gone rs m.member) ms)

-- the task is a member of the team
abbrev pub IsMemberOf : List Record → ℕ → ℕ → Type 0
IsMemberOf rs parallel task = (m : Membership) × Contains (members rs parallel) m × (m.member ≡ task)

-- this is what the records say of the team and the barriers of a task, and of those of its parent
pub record IsInTeams (rs : List Record) (task : ℕ) (kin : Kin) : Type 0 where
  pub barriers : kin.barriers ≡ phase_at rs task (length rs)
  pub team : (parallel : ℕ) → IsMemberOf rs parallel task → kin.team ≡ Some parallel
  pub member : (parallel : ℕ) → kin.team ≡ Some parallel → IsMemberOf rs parallel task
  pub initial : kin.parent ≡ None → kin.team ≡ None → IsInitial rs task
  pub phase : (i parent : ℕ) → IsCreatedAt rs i parent task → kin.phase ≡ phase_at rs parent i
  pub parent_team : (i parent parallel : ℕ) → IsCreatedAt rs i parent task → IsMemberOf rs parallel parent
      → kin.parent_team ≡ Some parallel
  pub parent_member : (parallel : ℕ) → kin.parent_team ≡ Some parallel
      → (i : ℕ) × (parent : ℕ) × IsCreatedAt rs i parent task × IsMemberOf rs parallel parent

-- a child of a member, created in such a phase
abbrev pub IsInPhase : List Record → ℕ → (ℕ → Type 0) → ℕ → Type 0
IsInPhase rs parallel is_phase child =
    (i : ℕ) × (parent : ℕ) × IsMemberOf rs parallel parent × IsCreatedAt rs i parent child
    × is_phase (phase_at rs parent i)

-- a barrier with this number of a member of the team ends there
pub record EndsBarrierAt (rs : List Record) (parallel number i : ℕ) : Type 0 where
  pub own : ℕ
  pub begin : ℕ
  pub kind : SyncKind
  pub ends : IsRegion rs i own kind begin
  pub barrier : is_barrier kind ≡ true
  pub begins : IsBarrierBegin rs own number begin
  pub member : IsMemberOf rs parallel own

-- below the length all children are settled that the team's members created in phases up to this one
abbrev pub AreSettledUpTo : List Record → ℕ → ℕ → ℕ → Type 0
AreSettledUpTo rs parallel number length =
    (child : ℕ) → IsInPhase rs parallel (λ k. k ≤ number) child → IsSettled rs length child

-- this is what the records leave of a team
pub record IsTeamOf (rs : List Record) (is_kept : ℕ → Bool) (parallel : ℕ) (team : Team) : Type 0 where
  pub actual : (m : Membership) → Contains (members rs parallel) m → m.actual ≤ team.actual
  pub joined : team.joined ≡ length (members rs parallel)
  pub ended : team.ended ≤ gone_of rs (members rs parallel)
  pub begun : (number : ℕ) (p : Phase) → phase_of team number ≡ Some p
      → p.begun ≤ ahead rs (members rs parallel) number
  -- the children of each phase that is not over
  pub going : (number : ℕ) → team.over ≤ number
      → IsScopeOf (length rs) (IsInPhase rs parallel (λ k. k ≡ number)) is_kept (IsSettled rs)
      (phase_in team number).scope
  -- and of those that are over
  pub over : (child : ℕ) → IsInPhase rs parallel (λ k. k < team.over) child → IsSettled rs team.greatest child
  pub each : (number : ℕ) (p : Phase) → number < team.over → phase_of team number ≡ Some p
      → AreSettledUpTo rs parallel number p.scope.greatest

-- all members of the team have begun, and each of them has ended
pub record IsTeamOver (rs : List Record) (parallel : ℕ) : Type 0 where
  pub whole : (m : Membership) → Contains (members rs parallel) m → m.actual ≤ length (members rs parallel)
  pub ended : (m : Membership) → Contains (members rs parallel) m → is_gone rs m.member ≡ true

-- where a barrier ended before the place n, its phase is over, and all is settled that was created in it or
-- before it, by whichever record; where nothing is kept of its team, each member has begun it
pub record AreEndsOver (rs : List Record) (n : ℕ) (teams : ℕ → Option Team) : Type 0 where
  pub settled : (i parallel number : ℕ) → i < n → EndsBarrierAt rs parallel number i
      → AreSettledUpTo rs parallel number (seen_at rs i)
  pub over : (i parallel number : ℕ) (team : Team) → i < n → EndsBarrierAt rs parallel number i
      → teams parallel ≡ Some team → number < team.over
  pub gone : (i parallel number : ℕ) (m : Membership) → i < n → EndsBarrierAt rs parallel number i
      → teams parallel ≡ None → Contains (members rs parallel) m → number < phase_at rs m.member (length rs)

-- this is what the records leave of all teams; of the ends of barriers those before the place n are looked at
pub record AreTeamsBefore (rs : List Record) (n : ℕ) (table : ℕ → Option Kin) (teams : ℕ → Option Team)
    : Type 0 where
  pub places : (task : ℕ) (kin : Kin) → table task ≡ Some kin → IsInTeams rs task kin
  pub each : (parallel : ℕ) (team : Team) → teams parallel ≡ Some team
      → IsTeamOf rs (is_kept table) parallel team
  -- nothing is kept of a team that has no member yet, and of one that is over
  pub absent : (parallel : ℕ) → teams parallel ≡ None → IsTeamOver rs parallel
  pub ends : AreEndsOver rs n teams

abbrev pub AreTeamsOf : List Record → (ℕ → Option Kin) → (ℕ → Option Team) → Type 0
AreTeamsOf rs table teams = AreTeamsBefore rs (length rs) table teams

-- the phase with this number is over, and what is kept is still right
pub record EndsPhases (number : ℕ) (old new : Team) : Type 0 where
  pub same : (rs : List Record) (is_kept : ℕ → Bool) (parallel : ℕ) → IsTeamOf rs is_kept parallel old
      → IsTeamOf rs is_kept parallel new
  pub rises : old.over ≤ new.over
  pub over : number < new.over

-- the member's barrier with this number has ended: its phase and all before it are over, and in them all is
-- settled at the length
pub record HasEnded (number length : ℕ) (old new : Team) : Type 0 where
  pub ends : EndsPhases number old new
  pub settled : (rs : List Record) (is_kept : ℕ → Bool) (parallel : ℕ) → IsTeamOf rs is_kept parallel old
      → AreSettledUpTo rs parallel number length

-- all members have begun the barrier behind each phase that is over
abbrev pub HasBegunAll : Team → Type 0
HasBegunAll team =
    (rs : List Record) (is_kept : ℕ → Bool) (parallel : ℕ) → IsTeamOf rs is_kept parallel team
    → (m : Membership) → Contains (members rs parallel) m → team.over ≤ phase_at rs m.member (length rs)

-- all members have begun, each has ended, and all have begun the barrier behind each phase that is over
pub record IsTeamDone (team : Team) : Type 0 where
  pub whole : team.actual ≤ team.ended
  pub all : team.joined ≤ team.ended
  pub begun : HasBegunAll team

-- for each barrier that ends, each teammate has one with its number
abbrev pub AreBarriersBegun : List Record → Type 0
AreBarriersBegun rs =
    (i own begin member number : ℕ) (kind : SyncKind) → IsRegion rs i own kind begin
    → is_barrier kind ≡ true → IsBarrierBegin rs own number begin → IsTeammate rs own member
    → (start : ℕ) × IsBarrierBegin rs member number start

-- ---- changes of what is kept of one team

-- what is kept of the team of this region changes so, if anything is kept of it
pub record ChangesTeam (change : Team → Team → Type 0) (parallel : ℕ) (old new : ℕ → Option Team)
    : Type 0 where
  pub absent : old parallel ≡ None → new parallel ≡ None
  pub present : (team : Team) → old parallel ≡ Some team
      → (after : Team) × (new parallel ≡ Some after) × change team after
  pub others : (other : ℕ) → other ≢ parallel → new other ≡ old other

-- the same of the team of a member, where the task is one
abbrev pub ChangesTeamOf : (Team → Team → Type 0) → Option ℕ → (ℕ → Option Team) → (ℕ → Option Team) → Type 0
ChangesTeamOf change None old new = (other : ℕ) → new other ≡ old other
ChangesTeamOf change (Some parallel) old new = ChangesTeam change parallel old new

-- a member's barrier with this number ends
pub record EndsIn (number length parallel : ℕ) (old new : ℕ → Option Team) : Type 0 where
  pub was : Team
  pub found : old parallel ≡ Some was
  pub changes : ChangesTeam (HasEnded number length) parallel old new

-- of some teams nothing is kept any more: all is done there
pub record DropsTeams (old new : ℕ → Option Team) : Type 0 where
  pub each : (parallel : ℕ) (team : Team) → new parallel ≡ Some team → old parallel ≡ Some team
  pub gone : (parallel : ℕ) → new parallel ≡ None
      → (old parallel ≡ None) ⊎ ((team : Team) × (old parallel ≡ Some team) × IsTeamDone team)

-- a member of the team has ended, where the task is one; then nothing is kept of the team if all is done
-- there
pub record LeavesTeam (parallel : Option ℕ) (old new : ℕ → Option Team) : Type 0 where
  pub between : ℕ → Option Team
  pub counts : ChangesTeamOf HasLeft parallel old between
  pub drops : DropsTeams between new

-- a member of the team begins, by which the team has this size
pub record JoinsTeam (parallel size : ℕ) (old new : ℕ → Option Team) : Type 0 where
  pub after : Team
  pub here : new parallel ≡ Some after
  pub first : old parallel ≡ None → IsFirst size after
  pub further : (team : Team) → old parallel ≡ Some team → HasJoined size team after
  pub others : (other : ℕ) → other ≢ parallel → new other ≡ old other

-- ---- what a record says, for each step

-- it begins an initial task
abbrev pub BeginsInitial : ℕ → Record → Type 0
BeginsInitial root r = begun_initial r.body ≡ Some root

-- it begins this member of the team of a parallel region, which has this size
abbrev pub Joins : ℕ → ℕ → ℕ → Record → Type 0
Joins root parallel size r =
    (m : Membership) × (joined r.body ≡ Some m) × (m.member ≡ root) × (m.parallel ≡ parallel)
    × (m.actual ≡ size)

-- a member that it begins finds fewer members of its team than the size that it names, and these name it too
pub record FindsRoom (rs : List Record) (r : Record) : Type 0 where
  pub fewer : (m : Membership) → joined r.body ≡ Some m → length (members rs m.parallel) < m.actual
  pub same : (m e : Membership) → joined r.body ≡ Some m → Contains (members rs m.parallel) e
      → e.actual ≡ m.actual

-- it begins a barrier of the task
abbrev pub BeginsBarrier : ℕ → Record → Type 0
BeginsBarrier task r = barrier_begun (region r.body) ≡ Some task

-- it ends a barrier of the task, which may begin there too, and names the length seen
pub record EndsBarrier (task seen : ℕ) (r : Record) : Type 0 where
  pub kind : SyncKind
  pub endpoint : Endpoint
  pub says : region r.body ≡ Some (task, kind, endpoint)
  pub barrier : is_barrier kind ≡ true
  pub seen_is : r.seen ≡ seen

-- it makes no task and begins no barrier
abbrev pub SaysNothing : Record → Type 0
SaysNothing r = (made r.body ≡ None) × (barrier_begun (region r.body) ≡ None)

-- where the new record says so, what is kept of teams becomes what it leaves
abbrev pub TeamsFollow : (Record → Type 0) → (ℕ → Option Kin) → (ℕ → Option Team) → (ℕ → Option Kin)
    → (ℕ → Option Team) → Type 0
TeamsFollow says old teams new after =
    (rs : List Record) (r : Record) → says r → MayFollow rs r → IsWaitsOf rs old → AreTeamsOf rs old teams
    → AreTeamsBefore (rs ++ r ∷ []) (length rs) new after

-- the same where it begins a member that finds room in its team
abbrev pub TeamsJoin : ℕ → ℕ → ℕ → (ℕ → Option Kin) → (ℕ → Option Team) → (ℕ → Option Kin) → (ℕ → Option Team)
    → Type 0
TeamsJoin root parallel size old teams new after =
    (rs : List Record) (r : Record) → Joins root parallel size r → MayFollow rs r → FindsRoom rs r
    → IsWaitsOf rs old → AreTeamsOf rs old teams → AreTeamsBefore (rs ++ r ∷ []) (length rs) new after

-- what the records left of teams is still so for them
abbrev pub KeepsTeams : (ℕ → Option Kin) → (ℕ → Option Team) → (ℕ → Option Kin) → (ℕ → Option Team) → Type 0
KeepsTeams old teams new after =
    (rs : List Record) (n : ℕ) → IsFreeOf rs CreatedTwice → length rs < 2 ^ 64 → IsWaitsOf rs old
    → AreTeamsBefore rs n old teams → AreTeamsBefore rs n new after

-- where the new record ends a barrier, all that this covers is complete there, and what is kept is what the
-- records leave
pub record HasBarrierEnded (rs : List Record) (r : Record) (table : ℕ → Option Kin) (teams : ℕ → Option Team)
    : Type 0 where
  pub waits : IsWaitsOf (rs ++ r ∷ []) table
  pub teams_are : AreTeamsOf (rs ++ r ∷ []) table teams
  pub complete : IsCoverComplete rs r
