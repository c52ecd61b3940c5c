-- What the records themselves say of their order.
use Rattle.std.specs.Prelude.{ℕ, ◌≡◌, ◌≢◌, ◌<◌, ◌+◌, List, length, Some, true, is_some}
use Rattle.ompt_events.specs.declared.records.Record.{Record}
use Rattle.ompt_events.specs.Records.{created, begun_turn, suspended_turn, discarded, fulfilled, finish}
use Rattle.ompt_events.specs.Places.{at, thread_at, seen_at}

-- the first record in file order after which the task runs, in its first turn
pub record IsStart (rs : List Record) (i task : ℕ) : Type 0 where
  pub starts : at begun_turn rs i ≡ Some (task, 0)
  pub first : (k : ℕ) → k < i → at begun_turn rs k ≢ Some (task, 0)

-- the task is suspended at a, and at b, another record, it resumes: its next turn begins
pub record IsResumption (rs : List Record) (a b : ℕ) : Type 0 where
  pub task : ℕ
  pub turn : ℕ
  pub suspends : at suspended_turn rs a ≡ Some (task, turn)
  pub resumes : at begun_turn rs b ≡ Some (task, turn + 1)
  pub another : a ≢ b

-- the record makes an entry of the ledger of finished tasks
abbrev pub IsFinishing : List Record → ℕ → Type 0
IsFinishing rs i = is_some (at finish rs i) ≡ true

-- steps that the program itself takes in this order
pub data IsProgramStep (rs : List Record) (a b : ℕ) : Type 0 where
  -- an earlier record of the same thread
  thread_order : a < b → b < length rs → thread_at rs a ≡ thread_at rs b → IsProgramStep rs a b
  -- the creation of a task, and its start
  creation : (task : ℕ) → at created rs a ≡ Some task → IsStart rs b task → IsProgramStep rs a b
  -- the suspension of a task, and the record at which it resumes
  resumption : IsResumption rs a b → IsProgramStep rs a b
  -- the creation of a task, and a discard of it
  discard : (task : ℕ) → at created rs a ≡ Some task → at discarded rs b ≡ Some task → IsProgramStep rs a b
  -- the creation of a task, and a fulfilment of its event
  fulfilment : (task : ℕ) → at created rs a ≡ Some task → at fulfilled rs b ≡ Some task
      → IsProgramStep rs a b

-- one thing is known to come before another
pub data IsStep (rs : List Record) (a b : ℕ) : Type 0 where
  program : IsProgramStep rs a b → IsStep rs a b
  -- the entry that a makes is below the ledger length that b names
  ledger : IsFinishing rs a → seen_at rs a < seen_at rs b → IsStep rs a b

-- the steps and their chains
pub data HappensBefore (rs : List Record) : ℕ → ℕ → Type 0 where
  step : {a b : ℕ} → IsStep rs a b → HappensBefore rs a b
  chain : {a b c : ℕ} → HappensBefore rs a b → HappensBefore rs b c → HappensBefore rs a c
