-- The members of teams, taken one after another: what is kept of them.
use Rattle.std.specs.Prelude.{ℕ, ◌≡◌, ◌≢◌, ◌<◌, ◌≤◌, ◌+◌, ◌==◌, ◌||◌, ◌⊎◌, Bool, true, false, List}
use Rattle.std.specs.Prelude.{[], ◌∷◌, ◌++◌, length, Option, Some, None, Contains, if◌then◌else◌}
use Rattle.std.specs.Ordering.{nat_cmp}
use Rattle.std.specs.BTreeMap.{get}
use Rattle.ompt_events.specs.declared.records.Record.{Record}
use Rattle.ompt_events.specs.declared.records.Membership.{Membership}
use Rattle.ompt_events.specs.declared.names.SyncKind.{SyncKind}
use Rattle.ompt_events.specs.Records.{joined}
use Rattle.ompt_events.specs.Places.{at}
use Rattle.ompt_events.specs.Teams.{members, members_before, IsTeammate}
use Rattle.ompt_events.specs.Regions.{IsRegion, is_barrier, IsBarrierBegin}
use Rattle.online.specs.declared.rosters.Roster.{Roster}
use Rattle.online.specs.declared.rosters.Rosters.{Rosters}
use Rattle.online.specs.Ids.{has}

-- a team lacks a member, or has one that it may not have
pub data IsShortRoster (rs : List Record) (i : ℕ) : Type 0 where
  -- the member's number isn't one of its team
  outside : (m : Membership) → at joined rs i ≡ Some m → m.actual ≤ m.index → IsShortRoster rs i
  -- an earlier member of the team has the same number
  same_index : (m e : Membership) → at joined rs i ≡ Some m → Contains (members_before rs m.parallel i) e
      → e.index ≡ m.index → IsShortRoster rs i
  -- an earlier member names another size of the team
  other_size : (m e : Membership) → at joined rs i ≡ Some m → Contains (members_before rs m.parallel i) e
      → e.actual ≢ m.actual → IsShortRoster rs i
  -- the team has fewer members than its size
  few : (m : Membership) → at joined rs i ≡ Some m → length (members rs m.parallel) < m.actual
      → IsShortRoster rs i

abbrev pub AreWhole : List Record → Type 0
AreWhole rs = (i : ℕ) → IsShortRoster rs i → ⊥

-- a barrier ends that a member of the team doesn't begin: the member has no barrier of the same number
pub record MissesBegin (rs : List Record) (i : ℕ) : Type 0 where
  pub task : ℕ
  pub member : ℕ
  pub begin : ℕ
  pub number : ℕ
  pub kind : SyncKind
  pub ends : IsRegion rs i task kind begin
  pub barrier : is_barrier kind ≡ true
  pub begins : IsBarrierBegin rs task number begin
  pub mate : IsTeammate rs task member
  pub none : (start : ℕ) → IsBarrierBegin rs member number start → ⊥

-- ---- what is kept

-- by parallel region the roster, and whether the team has all its members
abbrev pub lacking_of : Rosters → ℕ → Option Roster
lacking_of kept parallel = get nat_cmp kept.lacking parallel

abbrev pub is_kept_whole : Rosters → ℕ → Bool
is_kept_whole kept parallel = has kept.whole parallel

-- the roster has these members
pub record HasEnrolled (ms : List Membership) (roster : Roster) : Type 0 where
  pub joined : roster.joined ≡ length ms
  pub size : (m : Membership) → Contains ms m → m.actual ≡ roster.size
  pub indices : (m : Membership) → Contains ms m → has roster.indices m.index ≡ true

-- the rosters are what the records leave, and each member may begin where it does
pub record AreRostersOf (rs : List Record) (kept : Rosters) : Type 0 where
  pub inside : (i : ℕ) (m : Membership) → at joined rs i ≡ Some m → m.index < m.actual
  pub own_index : (i : ℕ) (m e : Membership) → at joined rs i ≡ Some m
      → Contains (members_before rs m.parallel i) e → e.index ≢ m.index
  pub same_size : (i : ℕ) (m e : Membership) → at joined rs i ≡ Some m
      → Contains (members_before rs m.parallel i) e → e.actual ≡ m.actual
  -- of a team that is kept as one that lacks a member, the roster
  pub lacking : (parallel : ℕ) (roster : Roster) → lacking_of kept parallel ≡ Some roster
      → HasEnrolled (members rs parallel) roster
  -- a team that is whole has all its members
  pub whole : (parallel : ℕ) (m : Membership) → is_kept_whole kept parallel ≡ true
      → Contains (members rs parallel) m → m.actual ≤ length (members rs parallel)
  -- any other has no member
  pub none : (parallel : ℕ) → lacking_of kept parallel ≡ None → is_kept_whole kept parallel ≡ false
      → members rs parallel ≡ []

-- ---- what a step says

-- the roster of a team of this size, before any member begins
pub record IsEmptyRoster (size : ℕ) (roster : Roster) : Type 0 where
  pub size_is : roster.size ≡ size
  pub joined : roster.joined ≡ 0
  pub indices : (index : ℕ) → has roster.indices index ≡ false

-- a member more, which may begin there
pub record EnrollsIn (old new : Roster) (index size : ℕ) : Type 0 where
  pub inside : index < size
  pub old_size : old.size ≡ size
  pub new_size : new.size ≡ old.size
  pub joined : new.joined ≡ old.joined + 1
  pub fresh : has old.indices index ≡ false
  pub indices : (other : ℕ) → has new.indices other ≡ ((other == index) || has old.indices other)

-- the roster of the parallel region's team is taken out, or is one with no member, where none is kept
pub record TakesOut (old new : Rosters) (parallel size : ℕ) (roster : Roster) : Type 0 where
  pub found : (lacking_of old parallel ≡ Some roster)
      ⊎ ((lacking_of old parallel ≡ None) × IsEmptyRoster size roster)
  pub lacking : (other : ℕ) → lacking_of new other
      ≡ (if other == parallel then None else lacking_of old other)
  pub whole : (other : ℕ) → is_kept_whole new other ≡ is_kept_whole old other

-- the team of the parallel region is kept with this roster: as one that lacks a member, or as
-- whole where it lacks none
pub data KeepsRoster (old new : Rosters) (parallel : ℕ) (roster : Roster) : Type 0 where
  as_whole : roster.joined ≡ roster.size
      → ((other : ℕ) → is_kept_whole new other ≡ ((other == parallel) || is_kept_whole old other))
      → ((other : ℕ) → lacking_of new other ≡ lacking_of old other)
      → KeepsRoster old new parallel roster
  as_lacking : ((other : ℕ) → is_kept_whole new other ≡ is_kept_whole old other)
      → ((other : ℕ) → lacking_of new other
      ≡ (if other == parallel then Some roster else lacking_of old other))
      → KeepsRoster old new parallel roster

-- where the old rosters are those of some records, the new ones are those with a record more that begins such
-- a member
abbrev pub TakesMember : Rosters → Rosters → ℕ → ℕ → ℕ → Type 0
TakesMember old new parallel index size =
    (rs : List Record) (r : Record) (m : Membership) → joined r.body ≡ Some m → m.parallel ≡ parallel
    → m.index ≡ index → m.actual ≡ size → AreRostersOf rs old → AreRostersOf (rs ++ r ∷ []) new
