-- The audit of records one after another: what is kept of those so far.
use Rattle.std.specs.Prelude.{ℕ, ◌≡◌, ◌≢◌, ◌⊎◌, ◌==◌, ◌||◌, true, false, List, [], ◌∷◌, ◌++◌, Option, Some}
use Rattle.std.specs.Prelude.{None, option_and_then, if◌then◌else◌, Contains}
use Rattle.std.specs.Ordering.{nat_cmp}
use Rattle.std.specs.BTreeSet.{contains}
use Rattle.ompt_events.specs.declared.records.Record.{Record}
use Rattle.ompt_events.specs.declared.records.Body.{Body}
use Rattle.ompt_events.specs.declared.records.Body.TheVariants.{Dependences, TaskSchedule}
use Rattle.ompt_events.specs.declared.names.Status.TheVariants.{TaskwaitComplete}
use Rattle.ompt_events.specs.declared.names.SyncKind.TheVariants.{Taskwait}
use Rattle.ompt_events.specs.declared.deps.Dep.{Dep}
use Rattle.ompt_events.specs.Records.{forked, region_named, dependences, started, next_turn, creation}
use Rattle.ompt_events.specs.Records.{region, begun_turn, wait_completed}
use Rattle.ompt_events.specs.Causes.{IsForked}
use Rattle.ompt_events.specs.Ends.{AreSameButForEnds}
use Rattle.ompt_events.specs.Places.{at}
use Rattle.callbacks.specs.Tasks.{TaskView, parent_of, is_running}
use Rattle.online.specs.declared.regions.Regions.{Regions}
use Rattle.online.specs.declared.replay.Replay.{Replay}
use Rattle.online.specs.declared.watch.Watch.{Watch}
use Rattle.online.specs.Ids.{has}
use Rattle.online.specs.Items.{IsItemsOf}
use Rattle.online.specs.Kept.{kept_by, teams_by}
use Rattle.online.specs.Lengths.{IsLengthsOf}
use Rattle.online.specs.Lists.{AreListsOf, AreListsInOrder, IsFoundBefore}
use Rattle.online.specs.Missed.{AreCreatedOutside, AreTasksLeft}
use Rattle.online.specs.Online.{EachRecord, ComesAfter, PassesAfter, IsSettledAfter}
use Rattle.online.specs.Replays.{IsReplayOf}
use Rattle.online.specs.Rosters.{AreRostersOf}
use Rattle.online.specs.Tasks.{value_of}
use Rattle.online.specs.Teams.{AreTeamsOf}
use Rattle.online.specs.Waits.{IsWaitsOf, ends_region}

-- ---- parallel regions

-- the ids of the parallel regions that these records begin, and of those that they name and do not begin
pub record AreRegionsOf (rs : List Record) (kept : Regions) : Type 0 where
  pub begun : (parallel : ℕ) → has kept.begun parallel ≡ true → IsForked rs parallel
  pub all : (parallel : ℕ) → IsForked rs parallel → has kept.begun parallel ≡ true
  pub named : (i parallel : ℕ) → at region_named rs i ≡ Some parallel
      → IsForked rs parallel ⊎ (contains nat_cmp kept.awaited parallel ≡ true)

-- a region that the record begins is new
abbrev pub BeginsNewRegion : List Record → Record → Type 0
BeginsNewRegion before r =
    (task parallel : ℕ) → forked r.body ≡ Some (task, parallel) → IsForked before parallel → ⊥

-- a region is named: it is begun, or is awaited now
pub record NamesOne (old new : Regions) (parallel : ℕ) : Type 0 where
  pub begun : new.begun ≡ old.begun
  pub here : has old.begun parallel ≡ true ⊎ (contains nat_cmp new.awaited parallel ≡ true)
  pub others : (other : ℕ) → contains nat_cmp old.awaited other ≡ true → contains nat_cmp new.awaited other
      ≡ true

-- a new region is begun, and awaited no more
pub record BeginsOne (old new : Regions) (parallel : ℕ) : Type 0 where
  pub fresh : has old.begun parallel ≡ false
  pub begun : (other : ℕ) → has new.begun other ≡ ((other == parallel) || has old.begun other)
  pub others : (other : ℕ) → other ≢ parallel → contains nat_cmp old.awaited other ≡ true
      → contains nat_cmp new.awaited other ≡ true

-- ---- the task that has predecessors

-- the task whose predecessors may have to be complete at the record: a taskwait that is complete there, or a
-- task that begins its first turn
abbrev pub preceded_of : Body → Option ℕ
preceded_of (TaskSchedule TaskwaitComplete turns prior next claimed) = Some prior
preceded_of body = if next_turn body == 0 then started body else None

-- that task, or the one whose dependences the record lists
abbrev pub dependent_of : Body → Option ℕ
dependent_of (Dependences task list) = Some task
dependent_of body = preceded_of body

-- the parent of the task, where the task is live and has one
abbrev pub parent_in : Replay → ℕ → Option ℕ
parent_in kept task = option_and_then (λ (t : TaskView). parent_of t.origin) (value_of kept.tasks task)

-- where the record lists dependences, a parent is given, which is live and runs
abbrev pub MayList : Replay → Body → Option ℕ → Type 0
MayList kept body parent =
    (task : ℕ) (list : List Dep) → dependences body ≡ Some (task, list)
    → (p : ℕ) × (parent ≡ Some p) × (t : TaskView) × (value_of kept.tasks p ≡ Some t)
    × (is_running t.state ≡ true)

-- ---- where tasks create children

-- the record creates no child inside a taskwait of the parent
abbrev pub CreatesOutside : Replay → Body → Type 0
CreatesOutside kept body =
    (parent child : ℕ) → creation body ≡ Some (parent, child) → (t : TaskView)
    → value_of kept.tasks parent ≡ Some t → Contains t.regions Taskwait → ⊥

-- ---- all that is kept

-- it is what these records leave, each of which passed its tests with those before it
pub record IsWatchOf (rs : List Record) (w : Watch) : Type 0 where
  pub replay : IsReplayOf rs w.replay
  pub regions : AreRegionsOf rs w.regions
  pub rosters : AreRostersOf rs w.rosters
  pub lengths : IsLengthsOf rs w.lengths
  pub waits : IsWaitsOf rs (kept_by w.waits)
  pub teams : AreTeamsOf rs (kept_by w.waits) (teams_by w.waits)
  pub items : IsItemsOf rs w.items
  pub lists : AreListsOf rs w.lists
  pub in_order : AreListsInOrder rs
  pub outside : w.outside ≡ true → AreCreatedOutside rs
  pub comes : EachRecord ComesAfter rs
  pub passes : EachRecord PassesAfter rs
  pub settled : EachRecord IsSettledAfter rs

-- it is what these records leave, but for what ends of roots say of their teams
abbrev pub HasWatched : List Record → Watch → Type 0
HasWatched records w = (rs : List Record) × AreSameButForEnds records rs × IsWatchOf rs w

-- ---- where a record failed the test of waits

-- it ends a region behind these: what is kept of tasks is what these leave, and the replay has taken the
-- record
pub record IsRefusedWatch (rs : List Record) (r : Record) (w : Watch) : Type 0 where
  pub replay : IsReplayOf (rs ++ r ∷ []) w.replay
  pub tasks : AreTasksLeft rs r (kept_by w.waits)
  pub outside : w.outside ≡ true → AreCreatedOutside rs

-- this is kept where the record ends a region, but for what ends of roots say of their teams
abbrev pub HasRefused : List Record → Record → Watch → Type 0
HasRefused records r w =
    ends_region (region r.body) ≡ true
    → (rs : List Record) × AreSameButForEnds records rs × IsRefusedWatch rs r w

-- ---- where a record failed the test of predecessors

-- what a task depends on must be complete at a record with this body: the task starts there, or is a taskwait
-- that is complete there
abbrev pub MustBePreceded : Body → ℕ → Type 0
MustBePreceded body task = (begun_turn body ≡ Some (task, 0)) ⊎ (wait_completed body ≡ Some task)

-- the replay has taken these records, the last of which is refused, and the lists are among theirs
pub record IsRefusedStart (rs : List Record) (w : Watch) : Type 0 where
  pub replay : IsReplayOf rs w.replay
  pub lists : AreListsOf rs w.lists
  pub in_order : AreListsInOrder rs

-- by the lists that are kept no live task precedes the one that must be preceded at a record with this body
abbrev pub HasNoneBefore : Watch → Body → Type 0
HasNoneBefore w body =
    (task found : ℕ) → preceded_of body ≡ Some task → IsFoundBefore w.lists w.replay task found → ⊥

-- this is kept where a task must be preceded at the record, but for what ends of roots say of their teams
abbrev pub HasRefusedStart : List Record → Record → Watch → Type 0
HasRefusedStart records r w =
    (task : ℕ) → MustBePreceded r.body task
    → (rs : List Record) × AreSameButForEnds records rs × IsRefusedStart (rs ++ r ∷ []) w
