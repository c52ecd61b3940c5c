-- Barriers that end and that a member of the team doesn't begin.
use Rattle.std.specs.Prelude.{ℕ, ◌≡◌, true, List, Some, slice_get}
use Rattle.ompt_events.specs.declared.records.Record.{Record}
use Rattle.ompt_events.specs.declared.names.SyncKind.{SyncKind}
use Rattle.ompt_events.specs.Regions.{IsRegion, IsBarrierBegin, is_barrier}
use Rattle.ompt_events.specs.Teams.{IsTeammate}
use Rattle.task_tree.specs.Runs.{RunView}

-- a barrier ends there that began at the place `begin`
pub record EndsBarrier (rs : List Record) (i begin : ℕ) : Type 0 where
  pub task : ℕ
  pub kind : SyncKind
  pub ends : IsRegion rs i task kind begin
  pub barrier : is_barrier kind ≡ true

-- the task at the index ends it
pub record IsBarrierEnd (run : RunView) (i index begin : ℕ) : Type 0 where
  pub barrier : EndsBarrier run.records i begin
  pub indexed : slice_get run.family.tasks index ≡ Some barrier.task

-- no barrier ends there
abbrev pub EndsNoBarrier : List Record → ℕ → Type 0
EndsNoBarrier rs i =
    (task begin : ℕ) (kind : SyncKind) → IsRegion rs i task kind begin → is_barrier kind ≡ true → ⊥

-- a barrier ends there that a member of the team doesn't begin
pub record IsBarrierMissed (rs : List Record) (i : ℕ) : Type 0 where
  pub begin : ℕ
  pub barrier : EndsBarrier rs i begin
  pub number : ℕ
  pub numbered : IsBarrierBegin rs barrier.task number begin
  pub member : ℕ
  pub mate : IsTeammate rs barrier.task member
  pub never : (start : ℕ) → IsBarrierBegin rs member number start → ⊥
