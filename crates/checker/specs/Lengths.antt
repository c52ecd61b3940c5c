-- The lengths that records name, while they are compared.
use Rattle.std.specs.Prelude.{◌≡◌, ◌<◌, ◌≤◌, ◌↔◌, ℕ, Bool, List, IsTrue, length, Some, slice_get}
use Rattle.std.specs.Prelude.{slice_index_or}
use Rattle.ompt_events.specs.declared.records.Record.{Record}
use Rattle.ompt_events.specs.Records.{begun_turn}
use Rattle.ompt_events.specs.Places.{at, thread_at, seen_at}
use Rattle.ompt_events.specs.Causes.{known_after}
use Rattle.checker.specs.Schedule.{Awaits}
use Rattle.checker.specs.declared.lengths.Passed.{Passed}

-- the record names a lesser length than the one that it awaits
abbrev pub PrecedesAwaited : List Record → ℕ → Type 0
PrecedesAwaited rs i = (c : ℕ) × Awaits rs i c × (seen_at rs i < seen_at rs c)

-- by thread the greatest length known after one of its records among the first n; 0 if there is none
pub record AreKnownLengths (rs : List Record) (n : ℕ) (known : List ℕ) : Type 0 where
  pub all : length known ≡ 256
  pub most : (k thread : ℕ) → k < n → thread_at rs k ≡ Some thread
      → known_after rs k ≤ slice_index_or known thread 0
  pub last : (thread : ℕ) → 0 < slice_index_or known thread 0 → (k : ℕ) × (k < n)
      × (thread_at rs k ≡ Some thread) × (known_after rs k ≡ slice_index_or known thread 0)

-- ---- all records that name a lesser length

-- the record names a lesser length than was known after an earlier one of its thread
abbrev pub FallsOnThread : List Record → ℕ → Type 0
FallsOnThread rs i =
    (k : ℕ) × (k < i) × (thread_at rs k ≡ thread_at rs i) × (seen_at rs i < known_after rs k)

-- one of the first n records begins turn 0 of the task
abbrev pub HasStarted : List Record → ℕ → ℕ → Type 0
HasStarted rs n task = (k : ℕ) × (k < n) × (at begun_turn rs k ≡ Some (task, 0))

-- the record does, and so does an earlier one
abbrev pub StartsAgain : List Record → ℕ → Type 0
StartsAgain rs i = (task : ℕ) × (at begun_turn rs i ≡ Some (task, 0)) × HasStarted rs i task

-- by index of the task whether one of the first n records does
pub record AreStarted (rs : List Record) (n : ℕ) (tasks : List ℕ) (started : List Bool) : Type 0 where
  pub all : length started ≡ length tasks
  pub each : (index task : ℕ) (has : Bool) → slice_get tasks index ≡ Some task
      → slice_get started index ≡ Some has → IsTrue has ↔ HasStarted rs n task

-- what the first n records leave behind
pub record ArePassed (rs : List Record) (n : ℕ) (tasks : List ℕ) (passed : Passed) : Type 0 where
  pub known : AreKnownLengths rs n passed.known
  pub started : AreStarted rs n tasks passed.started.items
