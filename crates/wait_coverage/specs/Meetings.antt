-- The least ledger length at which what the members of a team created before one barrier is finished.
use Rattle.std.specs.Prelude.{ℕ, ◌≡◌, ◌<◌, ◌≤◌, List, length, Some, slice_get}
use Rattle.std.specs.Global.{Vec}
use Rattle.ompt_events.specs.Regions.{IsBarrierBegin}
use Rattle.task_states.specs.Rows.{row_at}
use Rattle.wait_coverage.specs.Done.{DoneView, records_of, tasks_of}
use Rattle.wait_coverage.specs.Limits.{IsFamiliesLimit, IsWaitLimit, IsEndLimit, IsLeastFor, AreFamiliesEarly}
use Rattle.wait_coverage.specs.Limits.{IsEndLeast}
use Rattle.wait_coverage.specs.declared.limits.Node.{Node}

-- the row has a limit for what the task created before its barrier with this number began at i
pub record IsMeeting (done : DoneView) (task number i : ℕ) (row : List ℕ) : Type 0 where
  pub limit : ℕ
  pub there : slice_get row number ≡ Some limit
  pub families : IsFamiliesLimit done i task limit

-- at this ledger length the children are finished, and their descendants, that the members of the team
-- created before their barriers with this number began, of the begins among the first n records
abbrev pub AreMetEarly : DoneView → ℕ → ℕ → ℕ → ℕ → Type 0
AreMetEarly done n team number m = (index task i : ℕ) → slice_get (tasks_of done) index ≡ Some task
    → slice_get done.teams.teams index ≡ Some (Some team)
    → IsBarrierBegin (records_of done) task number i → i < n → AreFamiliesEarly done 0 i task m

-- by number of each team a row by the numbers of its barriers, for the begins among the first n records
pub record AreMet (done : DoneView) (n : ℕ) (meetings : List (Vec ℕ)) : Type 0 where
  pub each : (index task team number i : ℕ) → slice_get (tasks_of done) index ≡ Some task
      → slice_get done.teams.teams index ≡ Some (Some team)
      → IsBarrierBegin (records_of done) task number i → i < n
      → IsMeeting done task number i (row_at meetings team)
  pub least : (team number limit : ℕ) → slice_get (row_at meetings team) number ≡ Some limit
      → IsLeastFor (AreMetEarly done n team number) limit

-- each limit is at least what it was, and the one with this number at least the limit
pub record IsLimitRaised (number limit : ℕ) (before after : List ℕ) : Type 0 where
  pub kept : (k old : ℕ) → slice_get before k ≡ Some old
      → (new : ℕ) × (slice_get after k ≡ Some new) × (old ≤ new)
  pub raised : (new : ℕ) × (slice_get after number ≡ Some new) × (limit ≤ new)
  pub least : (k new m : ℕ) → slice_get after k ≡ Some new
      → ((old : ℕ) → slice_get before k ≡ Some old → old ≤ m) → (k ≡ number → limit ≤ m)
      → new ≤ m

-- each end among the first n records has the limit of what it covers; each other end has that of what it
-- covers as a taskwait or a taskgroup
pub record AreMeetingsAdded (done : DoneView) (n : ℕ) (nodes : List Node) : Type 0 where
  pub count : length nodes ≡ length (records_of done)
  pub known : (i : ℕ) (node : Node) → i < n → slice_get nodes i ≡ Some node → IsEndLimit done i node.limit
  pub least : (i : ℕ) (node : Node) → i < n → slice_get nodes i ≡ Some node → IsEndLeast done i node.limit
  pub noted : (i : ℕ) (node : Node) → n ≤ i → slice_get nodes i ≡ Some node → IsWaitLimit done i node.limit
