-- The records of each thread, as chains of their places.
use Rattle.std.specs.Prelude.{ℕ, ◌≡◌, ◌<◌, ◌≤◌, ◌+◌, List, Some, length, slice_get}
use Rattle.ompt_events.specs.declared.records.Record.{Record}
use Rattle.ompt_events.specs.Places.{thread_at}

-- the place is that of the first record of the thread from a place on, or the end if there is none
pub record IsFirstFrom (rs : List Record) (thread from place : ℕ) : Type 0 where
  pub behind : from ≤ place
  pub within : place ≤ length rs
  pub none : (k : ℕ) → from ≤ k → k < place → thread_at rs k ≡ Some thread → ⊥
  pub is : place < length rs → thread_at rs place ≡ Some thread

-- the chains of the records from a place on: by thread its first place, and by place the thread's next one
pub record AreChainsFrom (rs : List Record) (from : ℕ) (firsts nexts : List ℕ) : Type 0 where
  pub threads : length firsts ≡ 256
  pub all : length nexts ≡ length rs
  pub narrow : (i thread : ℕ) → from ≤ i → thread_at rs i ≡ Some thread → thread < 256
  pub begin : (thread place : ℕ) → slice_get firsts thread ≡ Some place → IsFirstFrom rs thread from place
  pub goes_on : (i thread place : ℕ) → from ≤ i → thread_at rs i ≡ Some thread
      → slice_get nexts i ≡ Some place → IsFirstFrom rs thread (i + 1) place
