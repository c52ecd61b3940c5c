-- When file order is the tasks' own order already, and what is known of the tasks while this is checked.
use Rattle.std.specs.Prelude.{ℕ, ◌≡◌, ◌<◌, ◌≤◌, ◌+◌, ◌⊎◌, ◌==◌, true, List, length, take, filter, slice_get}
use Rattle.std.specs.Prelude.{Some, None}
use Rattle.std.specs.Option.{unwrap_or}
use Rattle.ompt_events.specs.declared.records.Record.{Record}
use Rattle.ompt_events.specs.declared.records.Body.{Body}
use Rattle.ompt_events.specs.Records.{running, told_turns, begun_turn}
use Rattle.ompt_events.specs.Places.{at, thread_at, is_own}
use Rattle.ompt_events.specs.Tree.{IsExplicit}
use Rattle.ompt_events.specs.Turns.{turn_in, turn_at}
use Rattle.ompt_events.specs.Causes.{HasTurnGap, BeginsTurn}
use Rattle.task_tree.specs.declared.rising.Latest.{Latest}

-- along the file no task's turns fall
abbrev pub TurnsRise : List Record → Type 0
TurnsRise rs =
    (task i k : ℕ) → is_own rs task i ≡ true → is_own rs task k ≡ true → i < k → turn_at rs i ≤ turn_at rs k

-- no record before the place began a later turn of the task
abbrev pub NoneLater : List Record → ℕ → ℕ → ℕ → Type 0
NoneLater rs i task turn = (k later : ℕ) → k < i → BeginsTurn rs k task later → later ≤ turn

-- no earlier record begins a later turn of the record's task than the turn that the record is in, or a later
-- turn of a task than the one that begins there
pub record IsInOrder (rs : List Record) (i : ℕ) : Type 0 where
  pub own : (task : ℕ) → at running rs i ≡ Some task → NoneLater rs i task (turn_at rs i)
  pub begins : (task turn : ℕ) → BeginsTurn rs i task turn → NoneLater rs i task turn

-- each record is so: along the file each task comes to its turns in order
abbrev pub AreTurnsInOrder : List Record → Type 0
AreTurnsInOrder rs = (i : ℕ) → IsInOrder rs i

-- ---- what is known of a task

-- it began no turn
abbrev pub not_begun : Latest
not_begun = record { turn = None; thread = 0 }

-- the turn that it is in: the one that it began last, or turn 0
abbrev pub turn_now : Latest → ℕ
turn_now known = unwrap_or known.turn 0

-- the task is in this turn: on any thread in turn 0, and else on the thread on which it began the turn
abbrev pub IsOnTurn : Latest → ℕ → ℕ → Type 0
IsOnTurn known thread turn = (turn ≡ turn_now known) × ((turn_now known ≡ 0) ⊎ (thread ≡ known.thread))

-- the turn is its next one
pub data IsNext (known : Latest) (turn : ℕ) : Type 0 where
  next_first : known.turn ≡ None → turn ≡ 0 → IsNext known turn
  next_later : (last : ℕ) → known.turn ≡ Some last → turn ≡ last + 1 → IsNext known turn

-- what the first n records say of the task: the turn that is known began, and on the thread that is known,
-- if it is not turn 0; no later one began; and the task is in it on that thread, or in turn 0 on any
pub record IsLatestTurn (rs : List Record) (n task : ℕ) (known : Latest) : Type 0 where
  pub begun : (turn : ℕ) → known.turn ≡ Some turn → (k : ℕ) × (k < n) × BeginsTurn rs k task turn
      × ((turn ≡ 0) ⊎ (thread_at rs k ≡ Some known.thread))
  pub none : known.turn ≡ None → (k turn : ℕ) → k < n → BeginsTurn rs k task turn → ⊥
  pub bound : NoneLater rs n task (turn_now known)
  pub now : (thread turn : ℕ) → IsOnTurn known thread turn
      → turn_in task (filter (λ q. q.thread == thread) (take n rs)) ≡ turn

-- the same by index of each task
pub record AreLatestTurns (rs : List Record) (n : ℕ) (tasks : List ℕ) (latest : List Latest) : Type 0 where
  pub all : length latest ≡ length tasks
  pub each : (index task : ℕ) (known : Latest) → slice_get tasks index ≡ Some task
      → slice_get latest index ≡ Some known → IsLatestTurn rs n task known

-- ---- one record

-- the record at the place is in this turn of its task, of which no earlier one began a later turn
pub record IsTurnThere (rs : List Record) (i turn : ℕ) : Type 0 where
  pub is : turn ≡ turn_at rs i
  pub bound : (task : ℕ) → at running rs i ≡ Some task → NoneLater rs i task turn

-- the task at the index runs next there, in this turn
pub record IsStartOf (rs : List Record) (tasks : List ℕ) (i index turn : ℕ) : Type 0 where
  pub task : ℕ
  pub starts : at begun_turn rs i ≡ Some (task, turn)
  pub indexed : slice_get tasks index ≡ Some task

-- the task at the index begins this turn there
pub record IsTurnBegin (rs : List Record) (tasks : List ℕ) (i index turn : ℕ) : Type 0 where
  pub task : ℕ
  pub begins : BeginsTurn rs i task turn
  pub indexed : slice_get tasks index ≡ Some task

-- no task begins a turn there
abbrev pub BeginsNone : List Record → ℕ → Type 0
BeginsNone rs i = (task turn : ℕ) → BeginsTurn rs i task turn → ⊥

-- a task of which this is known may begin the turn: no earlier one if the record gives no turns, and else
-- the next, which for a root is not turn 0
pub data MayBegin (rs : List Record) (task : ℕ) (body : Body) (known : Latest) (turn : ℕ) : Type 0 where
  may_untold : told_turns body ≡ None → turn_now known ≤ turn → MayBegin rs task body known turn
  may_next : IsNext known turn → (turn ≡ 0 → IsExplicit rs task) → MayBegin rs task body known turn

-- the record at the place has no gap and is in order, and what is known afterwards is right
pub record IsStepOn (rs : List Record) (i : ℕ) (tasks : List ℕ) (latest : List Latest) : Type 0 where
  pub known : AreLatestTurns rs (i + 1) tasks latest
  pub gapless : HasTurnGap rs i → ⊥
  pub in_order : IsInOrder rs i
