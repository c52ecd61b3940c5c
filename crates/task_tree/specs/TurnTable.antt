-- The turn of each record, and what is kept of turns while the records are visited thread by thread.
use Rattle.std.specs.Prelude.{ℕ, ◌≡◌, ◌<◌, ◌≤◌, ◌⊎◌, ◌==◌, Bool, true, List, Some, if◌then◌else◌, length}
use Rattle.std.specs.Prelude.{take, filter, map, slice_get}
use Rattle.ompt_events.specs.declared.records.Record.{Record}
use Rattle.ompt_events.specs.Records.{begun_turn}
use Rattle.ompt_events.specs.Places.{at, thread_at, places}
use Rattle.ompt_events.specs.Turns.{turn_in, turn_at}
use Rattle.task_tree.specs.declared.turn_table.Mark.{Mark}
use Rattle.task_tree.specs.declared.turn_table.Walk.{Walk}

-- the view of the turns of records: the turn of each, and whether turns begin in order
pub record TurnsView : Type 0 where
  pub turns : List ℕ
  pub in_order : Bool

-- the turns are those of the records, by place
abbrev pub AreTurns : List Record → List ℕ → Type 0
AreTurns rs turns = turns ≡ map (turn_at rs) (places rs)

-- no record begins a turn of a task after an earlier record of its thread that began a later one
abbrev pub TurnsBeginInOrder : List Record → Type 0
TurnsBeginInOrder rs =
    (i k thread task turn later : ℕ) → k < i → thread_at rs i ≡ Some thread → thread_at rs k ≡ Some thread
    → at begun_turn rs i ≡ Some (task, turn) → at begun_turn rs k ≡ Some (task, later) → later ≤ turn

-- `in_order` is true only if they begin in order
pub record IsOrderTold (rs : List Record) (in_order : Bool) : Type 0 where
  pub order : in_order ≡ true → TurnsBeginInOrder rs

-- ---- the marks

-- a task that began no turn
abbrev pub no_mark : Mark
no_mark = record { turn = 0; thread = 0 }

-- the turn that the task with this mark is in on the thread
abbrev pub turn_on : Mark → ℕ → ℕ
turn_on mark thread = if mark.thread == thread then mark.turn else 0

-- by the thread's records among the first n the marks have the turns of the tasks; by those of later
-- threads, of which none is visited, each task is in turn 0
pub record AreTurnMarks (rs : List Record) (tasks : List ℕ) (thread n : ℕ) (marks : List Mark) : Type 0 where
  pub all : length marks ≡ length tasks
  pub here : (index task : ℕ) (mark : Mark) → slice_get tasks index ≡ Some task
      → slice_get marks index ≡ Some mark
      → turn_on mark thread ≡ turn_in task (filter (λ q. q.thread == thread) (take n rs))
  pub later : (index other : ℕ) (mark : Mark) → slice_get marks index ≡ Some mark → thread < other
      → turn_on mark other ≡ 0

-- ---- the walk

-- the record at the place, of this thread, is of an earlier thread, or one of the first n of the thread
abbrev pub IsPlacePassed : ℕ → ℕ → ℕ → ℕ → Type 0
IsPlacePassed thread n own i = (own < thread) ⊎ ((own ≡ thread) × (i < n))

-- the record begins no earlier turn than the one that the task began last on the thread
abbrev pub BeginsNoEarlier : List Record → ℕ → ℕ → Type 0
BeginsNoEarlier rs thread i =
    (task turn : ℕ) → at begun_turn rs i ≡ Some (task, turn)
    → turn_in task (filter (λ q. q.thread == thread) (take i rs)) ≤ turn

-- the earlier threads are visited, and of this one the first n records
pub record IsTableAt (rs : List Record) (tasks : List ℕ) (thread n : ℕ) (walk : Walk) : Type 0 where
  pub marks : AreTurnMarks rs tasks thread n walk.marks.items
  pub all : length walk.turns.items ≡ length rs
  pub turns : (i own : ℕ) → thread_at rs i ≡ Some own → IsPlacePassed thread n own i
      → slice_get walk.turns.items i ≡ Some (turn_at rs i)
  pub order : walk.in_order ≡ true → (i own : ℕ) → thread_at rs i ≡ Some own → IsPlacePassed thread n own i
      → BeginsNoEarlier rs own i

-- the same of the record's own thread, up to the record
abbrev pub IsReadAt : List Record → List ℕ → ℕ → Walk → Type 0
IsReadAt rs tasks i walk = (thread : ℕ) → thread_at rs i ≡ Some thread → IsTableAt rs tasks thread i walk
