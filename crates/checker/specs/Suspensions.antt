-- Where the explicit tasks are suspended, in a table with a row for each task and a slot for each turn.
use Rattle.std.specs.Prelude.{ℕ, ◌≡◌, ◌<◌, ◌≤◌, ◌+◌, List, length, Some, slice_get, slice_index}
use Rattle.ompt_events.specs.declared.records.Record.{Record}
use Rattle.ompt_events.specs.Records.{begun_turn, suspended_turn}
use Rattle.ompt_events.specs.Places.{at}
use Rattle.ompt_events.specs.Tree.{IsExplicit}
use Rattle.task_tree.specs.Rising.{IsStartOf}
use Rattle.checker.specs.Schedule.{EachAwaitsOne}
use Rattle.checker.specs.declared.suspensions.Suspensions.{Suspensions}

-- the task at the index is suspended at i, in this turn
pub record IsEndOf (rs : List Record) (tasks : List ℕ) (i index turn : ℕ) : Type 0 where
  pub task : ℕ
  pub suspends : at suspended_turn rs i ≡ Some (task, turn)
  pub indexed : slice_get tasks index ≡ Some task

-- every turn that begins is turn 0
abbrev pub BeginsNoLater : List Record → Type 0
BeginsNoLater rs = (i task turn : ℕ) → at begun_turn rs i ≡ Some (task, turn) → 0 < turn → ⊥

-- ---- rows of slots

-- the row of the task at the index has a slot for the turn
abbrev pub HasSlot : List ℕ → ℕ → ℕ → Type 0
HasSlot rows index turn = slice_index rows index + turn < slice_index rows (index + 1)

-- no row begins before the one before it
abbrev pub AreRowsInOrder : List ℕ → Type 0
AreRowsInOrder rows =
    (index : ℕ) → index + 1 < length rows → slice_index rows index ≤ slice_index rows (index + 1)

-- each turn but 0 that begins has its slot
abbrev pub HaveSlots : List Record → List ℕ → List ℕ → Type 0
HaveSlots rs tasks rows =
    (i index turn : ℕ) → IsStartOf rs tasks i index turn → 0 < turn → HasSlot rows index turn

-- none of the first n records begins a turn of its task at or beyond the length of the task's row
abbrev pub AreRowLengths : List Record → ℕ → List ℕ → List ℕ → Type 0
AreRowLengths rs n tasks lengths =
    (i index turn : ℕ) → i < n → IsStartOf rs tasks i index turn → turn < slice_index lengths index

-- ---- what the slots hold

-- the slot is that of the turn after the one in which an explicit task is suspended at i
pub record IsSlotBehind (rs : List Record) (tasks rows : List ℕ) (i slot : ℕ) : Type 0 where
  pub index : ℕ
  pub turn : ℕ
  pub end_of : IsEndOf rs tasks i index turn
  pub explicit : IsExplicit rs end_of.task
  pub has : HasSlot rows index (turn + 1)
  pub is : slot ≡ slice_index rows index + (turn + 1)

-- there is no such slot
abbrev pub HasNoSlotBehind : List Record → List ℕ → List ℕ → ℕ → Type 0
HasNoSlotBehind rs tasks rows i = (slot : ℕ) → IsSlotBehind rs tasks rows i slot → ⊥

-- the place is one at which the task, an explicit one, is suspended in the turn before
pub record IsEndBefore (rs : List Record) (task turn place : ℕ) : Type 0 where
  pub explicit : IsExplicit rs task
  pub before : ℕ
  pub next : turn ≡ before + 1
  pub suspends : at suspended_turn rs place ≡ Some (task, before)

-- a slot holds a place at which the turn before its own ends, or the number of records; and each of the
-- first n records at which an explicit task is suspended has filled its slot, if there is one
pub record AreTurnEnds (rs : List Record) (n : ℕ) (tasks rows places : List ℕ) : Type 0 where
  pub only : (index task turn : ℕ) → slice_get tasks index ≡ Some task → HasSlot rows index turn
      → slice_index places (slice_index rows index + turn) < length rs
      → IsEndBefore rs task turn (slice_index places (slice_index rows index + turn))
  pub all : (i slot : ℕ) → i < n → IsSlotBehind rs tasks rows i slot → slice_index places slot < length rs

-- the table has the end before each turn that begins
pub record AreSuspensions (rs : List Record) (tasks : List ℕ) (known : Suspensions) : Type 0 where
  pub facts : EachAwaitsOne rs
  pub room : HaveSlots rs tasks known.rows.items
  pub within : (index : ℕ) → slice_index known.rows.items index ≤ length known.places.items
  pub ends : AreTurnEnds rs (length rs) tasks known.rows.items known.places.items
