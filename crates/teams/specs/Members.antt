-- Teams by index of the task, and how many members each has, while the records are visited. The number of a
-- team is the index of its first member.
use Rattle.std.specs.Prelude.{ℕ, ◌≡◌, ◌<◌, List, length, Option, Some, None, nat_eq, slice_get}
use Rattle.indexmap.specs.IndexMap.{IndexMap, get, Updates, hasher_of as map_hasher}
use Rattle.index_tables.specs.declared.seeded.Seeded.{Seeded}
use Rattle.ompt_events.specs.declared.records.Record.{Record}
use Rattle.ompt_events.specs.declared.records.Membership.{Membership}
use Rattle.ompt_events.specs.Records.{joined, begun_initial}
use Rattle.ompt_events.specs.Places.{at}
use Rattle.ompt_events.specs.Teams.{members_before}
use Rattle.task_tree.specs.Runs.{RunView}
use Rattle.teams.specs.declared.members.Members.{Members}

-- by parallel region the lead of its team
abbrev pub Leads : Type 0
Leads = IndexMap ℕ ℕ Seeded

-- the index is that of the first member, in file order, of the parallel region's team
pub record IsLead (rs : List Record) (tasks : List ℕ) (parallel lead : ℕ) : Type 0 where
  pub place : ℕ
  pub first : Membership
  pub joins : at joined rs place ≡ Some first
  pub same : first.parallel ≡ parallel
  pub earliest : (k : ℕ) (m : Membership) → k < place → at joined rs k ≡ Some m → m.parallel ≡ parallel → ⊥
  pub here : slice_get tasks lead ≡ Some first.member

-- by parallel region the lead of its team, if a member begins by the first n records
pub record AreLeads (rs : List Record) (n : ℕ) (tasks : List ℕ) (leads : Leads) : Type 0 where
  pub known : (parallel lead : ℕ) → get nat_eq leads parallel ≡ Some lead → IsLead rs tasks parallel lead
  pub none : (parallel k : ℕ) (m : Membership) → get nat_eq leads parallel ≡ None → k < n
      → at joined rs k ≡ Some m → m.parallel ≡ parallel → ⊥

-- the map has the hashers that the run's family has for a table of regions
abbrev pub HasRegionHashers : RunView → Leads → Type 0
HasRegionHashers run leads = map_hasher leads ≡ run.family.region_hashers

-- the lead that a map has for a parallel region, or else this index from now on
pub data IsLeadOf (old new : Leads) (parallel index lead : ℕ) : Type 0 where
  old_lead : get nat_eq old parallel ≡ Some lead → new ≡ old → IsLeadOf old new parallel index lead
  new_lead : get nat_eq old parallel ≡ None → lead ≡ index → Updates nat_eq old new parallel (Some index)
      → map_hasher new ≡ map_hasher old → IsLeadOf old new parallel index lead

-- the number of the team that the task at the index is in by the record at a place
pub data IsTeamThere (rs : List Record) (tasks : List ℕ) (i index : ℕ) : Option ℕ → Type 0 where
  there_none : at begun_initial rs i ≡ None → at joined rs i ≡ None → IsTeamThere rs tasks i index None
  there_alone : {team : ℕ} (task : ℕ) → at begun_initial rs i ≡ Some task → team ≡ index
      → IsTeamThere rs tasks i index (Some team)
  there_joined : {team : ℕ} (m : Membership) → at joined rs i ≡ Some m → IsLead rs tasks m.parallel team
      → IsTeamThere rs tasks i index (Some team)

-- the number of the team that the task is in by one of the first n records
pub data IsInTeam (rs : List Record) (n : ℕ) (tasks : List ℕ) (index task team : ℕ) : Type 0 where
  in_own : (i : ℕ) → i < n → at begun_initial rs i ≡ Some task → team ≡ index
      → IsInTeam rs n tasks index task team
  in_joined : (i : ℕ) (m : Membership) → i < n → at joined rs i ≡ Some m → m.member ≡ task
      → IsLead rs tasks m.parallel team → IsInTeam rs n tasks index task team

-- the task is in no team by the first n records
pub record IsInNone (rs : List Record) (n task : ℕ) : Type 0 where
  pub not_initial : (i : ℕ) → i < n → at begun_initial rs i ≡ Some task → ⊥
  pub not_joined : (i : ℕ) (m : Membership) → i < n → at joined rs i ≡ Some m → m.member ≡ task → ⊥

-- at the index of each task, the number of its team, if it is in one by the first n records
pub record AreInTeams (rs : List Record) (n : ℕ) (tasks : List ℕ) (teams : List (Option ℕ)) : Type 0 where
  pub all : length teams ≡ length tasks
  pub known : (index task team : ℕ) → slice_get tasks index ≡ Some task
      → slice_get teams index ≡ Some (Some team) → IsInTeam rs n tasks index task team
  pub none : (index task : ℕ) → slice_get tasks index ≡ Some task → slice_get teams index ≡ Some None
      → IsInNone rs n task

-- the member that begins there is in the team of this lead
pub record IsLeadAt (rs : List Record) (tasks : List ℕ) (i lead : ℕ) : Type 0 where
  pub member : Membership
  pub joins : at joined rs i ≡ Some member
  pub leads : IsLead rs tasks member.parallel lead

-- at the index of each lead, how many members its team has by the first n records; 0 elsewhere
pub record AreSizes (rs : List Record) (n : ℕ) (tasks sizes : List ℕ) : Type 0 where
  pub all : length sizes ≡ length tasks
  pub each : (parallel lead size : ℕ) → IsLead rs tasks parallel lead → slice_get sizes lead ≡ Some size
      → size ≡ length (members_before rs parallel n)
  pub only : (index size : ℕ) → slice_get sizes index ≡ Some size → 0 < size
      → (parallel : ℕ) × IsLead rs tasks parallel index

-- both, by the first n records of a run
pub record AreMembers (run : RunView) (n : ℕ) (members : Members) : Type 0 where
  pub teams : AreInTeams run.records n run.family.tasks members.teams.items
  pub sizes : AreSizes run.records n run.family.tasks members.sizes.items

-- the member begins there, in the team of this lead
pub record IsJoining (run : RunView) (i : ℕ) (m : Membership) (lead : ℕ) : Type 0 where
  pub joins : at joined run.records i ≡ Some m
  pub leads : IsLead run.records run.family.tasks m.parallel lead
