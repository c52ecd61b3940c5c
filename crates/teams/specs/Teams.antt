-- The teams of a trace and the barriers of their members, by index of the task.
use Rattle.std.specs.Prelude.{ℕ, ◌≡◌, ◌<◌, ◌≤◌, ◌↔◌, List, length, filter, Option, Some, None, Contains}
use Rattle.std.specs.Prelude.{slice_get}
use Rattle.std.specs.Global.{Vec}
use Rattle.ompt_events.specs.declared.records.Record.{Record}
use Rattle.ompt_events.specs.declared.records.Membership.{Membership}
use Rattle.ompt_events.specs.declared.cause.Cause.TheVariants.{TeamShort}
use Rattle.ompt_events.specs.Records.{region}
use Rattle.ompt_events.specs.Places.{at, own_before}
use Rattle.ompt_events.specs.Regions.{begins_barrier, barrier_begun, IsBarrierBegin}
use Rattle.ompt_events.specs.Teams.{IsInitial, IsTeammate, members}
use Rattle.ompt_events.specs.Causes.{IsFreeOf}
use Rattle.task_tree.specs.Runs.{RunView, IsRun}
use Rattle.task_tree.specs.Own.{OwnView, IsOwn}
use Rattle.task_states.specs.Rows.{row_at}

-- the member with this number of the task's team (OpenMP 5.2, 18.2.4); an initial task is alone in its own
pub data IsMemberNumbered (rs : List Record) (task : ℕ) : ℕ → ℕ → Type 0 where
  alone : IsInitial rs task → IsMemberNumbered rs task 0 task
  together : (parallel : ℕ) (own other : Membership) → Contains (members rs parallel) own → own.member ≡ task
      → Contains (members rs parallel) other → IsMemberNumbered rs task other.index other.member

-- the places at which the task begins its barriers, of the first n records
abbrev pub begins_before : List Record → ℕ → ℕ → List ℕ
begins_before rs task n = filter (begins_barrier rs task) (own_before rs task n)

-- the view of teams: the run, whose records are in the tasks' own order; by number of a record its place in
-- the file; by index of the task the number of its team, if it is in one; by number of the team its members
-- by their own numbers; by index of the task the places at which it begins barriers; and by place of a
-- record that begins a barrier how many its task began before
pub record TeamsView : Type 0 where
  pub run : RunView
  pub places : List ℕ
  pub teams : List (Option ℕ)
  pub rosters : List (Vec (Option ℕ))
  pub begins : List (Vec ℕ)
  pub numbers : List ℕ

-- the run with the places of its records
abbrev pub own_of : TeamsView → OwnView
own_of view = record { run = view.run; places = view.places }

-- two tasks have the same number if they are in one team
pub record AreTeams (rs : List Record) (tasks : List ℕ) (teams : List (Option ℕ)) : Type 0 where
  pub all : length teams ≡ length tasks
  pub mates : (index other task mate team : ℕ) → slice_get tasks index ≡ Some task
      → slice_get tasks other ≡ Some mate → slice_get teams index ≡ Some (Some team)
      → (slice_get teams other ≡ Some (Some team)) ↔ IsTeammate rs task mate
  pub none : (index task mate : ℕ) → slice_get tasks index ≡ Some task → slice_get teams index ≡ Some None
      → IsTeammate rs task mate → ⊥

-- at the number of each team, its members by their numbers, without a gap
pub record AreRosters (rs : List Record) (tasks : List ℕ) (teams : List (Option ℕ))
    (rosters : List (Vec (Option ℕ))) : Type 0 where
  pub within : (index team : ℕ) → slice_get teams index ≡ Some (Some team) → team < length rosters
  pub each : (index task team number other mate : ℕ) (roster : Vec (Option ℕ))
      → slice_get tasks index ≡ Some task
      → slice_get teams index ≡ Some (Some team) → slice_get rosters team ≡ Some roster
      → slice_get tasks other ≡ Some mate
      → (slice_get roster.items number ≡ Some (Some other)) ↔ IsMemberNumbered rs task number mate
  pub full : (team number : ℕ) (roster : Vec (Option ℕ)) → slice_get rosters team ≡ Some roster
      → number < length roster.items
      → (other : ℕ) × (slice_get roster.items number ≡ Some (Some other)) × (other < length tasks)

-- in the row of each task, the places at which it begins barriers, of the first n records; a task that
-- begins none may have no row
pub record AreBarrierBegins (rs : List Record) (n : ℕ) (tasks : List ℕ) (begins : List (Vec ℕ)) : Type 0 where
  pub within : length begins ≤ length tasks
  pub each : (index task : ℕ) → slice_get tasks index ≡ Some task
      → row_at begins index ≡ begins_before rs task n

-- the task that begins a barrier there began this many before
abbrev pub IsNumberOf : List Record → ℕ → ℕ → Type 0
IsNumberOf rs i number = (task : ℕ) → barrier_begun (at region rs i) ≡ Some task
    → IsBarrierBegin rs task number i

-- each of the first n records has such a number
pub record AreBeginNumbers (rs : List Record) (n : ℕ) (numbers : List ℕ) : Type 0 where
  pub all : length numbers ≡ n
  pub each : (i number : ℕ) → slice_get numbers i ≡ Some number → IsNumberOf rs i number

-- all is that of the run, and no team or barrier lacks a member
pub record IsTeams (view : TeamsView) : Type 0 where
  pub run : IsRun view.run
  pub placed : IsOwn (own_of view)
  pub teams : AreTeams view.run.records view.run.family.tasks view.teams
  pub rosters : AreRosters view.run.records view.run.family.tasks view.teams view.rosters
  pub begins : AreBarrierBegins view.run.records (length view.run.records) view.run.family.tasks view.begins
  pub numbers : AreBeginNumbers view.run.records (length view.run.records) view.numbers
  pub whole : IsFreeOf view.run.records TeamShort
