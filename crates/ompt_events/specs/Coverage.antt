-- Which tasks the end of a region waits for.
use Rattle.std.specs.Prelude.{ℕ, ◌≡◌, ◌⊎◌, true, List, Contains}
use Rattle.ompt_events.specs.declared.records.Record.{Record}
use Rattle.ompt_events.specs.declared.names.SyncKind.{SyncKind}
use Rattle.ompt_events.specs.declared.names.SyncKind.TheVariants.{Taskwait, Taskgroup}
use Rattle.ompt_events.specs.Tree.{children_before, children_between, IsDescendant}
use Rattle.ompt_events.specs.Regions.{IsRegion, is_barrier, IsBarrierBegin}
use Rattle.ompt_events.specs.Teams.{IsTeammate}

-- the task is the child or one of its descendants
abbrev pub IsFamily : List Record → ℕ → ℕ → Type 0
IsFamily rs child task = (task ≡ child) ⊎ IsDescendant rs child task

-- the end at i covers the task
pub data Covers (rs : List Record) (i task : ℕ) : Type 0 where
  -- a taskwait waits for the children created before it began, and not for theirs (OpenMP 5.2, 15.5)
  waited : {parent begin : ℕ} → IsRegion rs i parent Taskwait begin
      → Contains (children_before rs parent begin) task → Covers rs i task
  -- a taskgroup waits for the children created in it, and for their descendants (15.4)
  grouped : {parent begin child : ℕ} → IsRegion rs i parent Taskgroup begin
      → Contains (children_between rs parent begin i) child → IsFamily rs child task → Covers rs i task
  -- a barrier waits, for each member of the team, for the children created before the member's barrier of
  -- the same number began, and for their descendants (15.3)
  synchronised : {own begin member start child : ℕ} {kind : SyncKind} (number : ℕ)
      → IsRegion rs i own kind begin → is_barrier kind ≡ true
      → IsBarrierBegin rs own number begin → IsTeammate rs own member → IsBarrierBegin rs member number start
      → Contains (children_before rs member start) child → IsFamily rs child task → Covers rs i task
