-- Which turns of which tasks begin, in a row of slots for each task.
use Rattle.std.specs.Prelude.{ℕ, ◌≡◌, ◌<◌, ◌≤◌, ◌+◌, true, Bool, List, Some, length, slice_get}
use Rattle.ompt_events.specs.declared.records.Record.{Record}
use Rattle.ompt_events.specs.Records.{begun_turn}
use Rattle.ompt_events.specs.Places.{at}

-- a later row begins no earlier
abbrev pub AreOffsetsRising : List ℕ → Type 0
AreOffsetsRising offsets =
    (a b first second : ℕ) → a < b → slice_get offsets a ≡ Some first → slice_get offsets b ≡ Some second
    → first ≤ second

-- no row ends after this many slots
abbrev pub AreOffsetsWithin : List ℕ → ℕ → Type 0
AreOffsetsWithin offsets slots = (index end : ℕ) → slice_get offsets index ≡ Some end → end ≤ slots

-- the slot of a turn of the task at an index, in the task's row
pub record IsSlot (offsets : List ℕ) (index turn slot : ℕ) : Type 0 where
  pub first : ℕ
  pub end : ℕ
  pub begins : slice_get offsets index ≡ Some first
  pub ends : slice_get offsets (index + 1) ≡ Some end
  pub is : slot ≡ first + turn
  pub inside : slot < end

-- each turn that one of the first n records begins has a slot, which is marked, and no other slot is
pub record AreMarkedUpTo (rs : List Record) (n : ℕ) (tasks offsets : List ℕ) (begun : List Bool)
    : Type 0 where
  pub marked : (k index task turn : ℕ) → k < n → at begun_turn rs k ≡ Some (task, turn)
      → slice_get tasks index ≡ Some task
      → (slot : ℕ) × IsSlot offsets index turn slot × (slice_get begun slot ≡ Some true)
  pub begins : (index task turn slot : ℕ) → IsSlot offsets index turn slot → slice_get tasks index ≡ Some task
      → slice_get begun slot ≡ Some true → (k : ℕ) × (at begun_turn rs k ≡ Some (task, turn))

-- no earlier record begins the turn that the record begins
abbrev pub BeginsAnew : List Record → ℕ → Type 0
BeginsAnew rs i =
    (k task turn : ℕ) → k < i → at begun_turn rs i ≡ Some (task, turn)
    → at begun_turn rs k ≡ Some (task, turn) → ⊥

-- the rows are those of all records, each of which begins its turn anew
pub record AreTurnRows (rs : List Record) (tasks offsets : List ℕ) (begun : List Bool) : Type 0 where
  pub all : length offsets ≡ length tasks + 1
  pub within : AreOffsetsWithin offsets (length begun)
  pub marked : AreMarkedUpTo rs (length rs) tasks offsets begun
  pub anew : (i : ℕ) → BeginsAnew rs i
