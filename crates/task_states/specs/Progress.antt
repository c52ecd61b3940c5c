-- The state that each task has reached while passes go over the records.
use Rattle.std.specs.Prelude.{ℕ, ◌≡◌, ◌<◌, ◌≤◌, ◌+◌, ◌++◌, ◌∷◌, ◌&&◌, ◌==◌, ltb, not, Bool, true, false, List}
use Rattle.std.specs.Prelude.{[], length, Option, Some, None, All, Contains, IsSomeAnd, is_some}
use Rattle.std.specs.Prelude.{if◌then◌else◌, filter, find, take, slice_get, set, get_or, IsTrue, ◌↔◌}
use Rattle.std.specs.List.{flat_map, range_with_len}
use Rattle.ompt_events.specs.declared.records.Record.{Record}
use Rattle.ompt_events.specs.declared.state.State.{State}
use Rattle.ompt_events.specs.declared.names.Status.{Status}
use Rattle.ompt_events.specs.declared.names.Status.TheVariants.{EarlyFulfill}
use Rattle.std.specs.Option.{option_map_or}
use Rattle.ompt_events.specs.Records.{started}
use Rattle.ompt_events.specs.Places.{at, places}
use Rattle.ompt_events.specs.States as states
use Rattle.ompt_events.specs.States.{is_task, is_on, is_early, home_of, has_moved, moves_at, turn_moves}
use Rattle.ompt_events.specs.States.{nature_of, state_of}
use Rattle.ompt_events.specs.Names.{demands_next}
use Rattle.ompt_events.specs.Turns.{turns_in}
use Rattle.task_tree.specs.Runs.{RunView, IsRun}
use Rattle.packed_trace.specs.Packed.{schedule_status as says_status}
use Rattle.task_states.specs.declared.homes.Home as homes
use Rattle.task_states.specs.declared.homes.Home.TheVariants as runs
use Rattle.task_states.specs.Homes.{home_at}
use Rattle.task_states.specs.declared.moves.Nature.{Nature}
use Rattle.task_states.specs.declared.moves.Nature.TheVariants.{Root, Wait, Plain}
use Rattle.task_states.specs.declared.moves.Move.{Move}
use Rattle.task_states.specs.declared.moves.Move.TheVariants.{Stopped, Started, Discarded}
use Rattle.task_states.specs.declared.progress.Pass.{Pass}
use Rattle.task_states.specs.declared.progress.Pass.TheVariants.{Early, Home, Rest}

-- the values of the definitions for those of the code
abbrev pub the_nature : Nature → states.Nature
the_nature Root = states.Root
the_nature Wait = states.Wait
the_nature Plain = states.Plain

abbrev pub the_move : Move → states.Move
the_move (Stopped status) = states.Stopped status
the_move Started = states.Started
the_move Discarded = states.Discarded

-- whether the record is of the task's home; a task that moved has none
abbrev pub is_home : List Record → ℕ → ℕ → Bool
is_home rs task i = not (has_moved rs task) && is_on rs (home_of rs task) i

-- whether the thread switches there from one task to another: a turn ends, and one begins
abbrev pub is_switch : List Record → ℕ → Bool
is_switch rs i = option_map_or demands_next (at says_status rs i) false

-- whether a pass reads what the record at i does to the task; turns of a task that moved are read apart
abbrev pub is_read : Pass → List Record → ℕ → ℕ → Bool
is_read Early rs task i = is_early rs task i && not (is_home rs task i)
is_read Home rs task i = is_home rs task i
is_read Rest rs task i =
    not (is_early rs task i) && not (is_home rs task i) && not (has_moved rs task && is_switch rs i)

-- the moves of a task that a pass reads at these places
abbrev pub moves_in : Pass → List Record → List ℕ → ℕ → List (ℕ × states.Move)
moves_in pass rs gone task = flat_map (moves_at rs task) (filter (is_read pass rs task) gone)

-- the moves by which the task begins and ends its turns below n, if it moved
abbrev pub turned : List Record → ℕ → ℕ → List (ℕ × states.Move)
turned rs n task = if has_moved rs task then flat_map (turn_moves rs task) (range_with_len 0 n) else []

-- the moves of a task that were read before the pass: before the last one also all turns of a task that
-- moved
abbrev pub read_before : Pass → List Record → ℕ → List (ℕ × states.Move)
read_before Early rs task = []
read_before Home rs task = moves_in Early rs (places rs) task
read_before Rest rs task =
    moves_in Early rs (places rs) task ++ moves_in Home rs (places rs) task ++ turned rs (turns_in rs) task

-- the moves of a task that are read after the pass over these places
abbrev pub moves_read : Pass → List Record → List ℕ → ℕ → List (ℕ × states.Move)
moves_read pass rs gone task = read_before pass rs task ++ moves_in pass rs gone task

-- the moves of a task that are read before the pass comes to the place n
abbrev pub moves_before : Pass → List Record → ℕ → ℕ → List (ℕ × states.Move)
moves_before pass rs n task = moves_read pass rs (range_with_len 0 n) task

-- whether a pass reads the record at i for the task that was found; where none was, nothing is missed
abbrev pub is_read_for : Pass → List Record → Option ℕ → ℕ → Bool
is_read_for pass rs found i = option_map_or (λ task. is_read pass rs task i) found true

-- the pass reads the record at i for each task that moves there
abbrev pub IsReadWhole : Pass → List Record → ℕ → Type 0
IsReadWhole pass rs i = (task : ℕ) → is_read pass rs task i ≡ false → moves_at rs task i ≡ []

-- below n the last pass has nothing to read at other places than these
pub record AreLeft (rs : List Record) (n : ℕ) (left : List ℕ) : Type 0 where
  pub within : All (λ place. place < n) left
  pub all : (task : ℕ) → moves_read Rest rs left task ≡ moves_before Rest rs n task

-- of these moves the one at i is the first that the task's state does not allow
pub record IsMoveRefused (nature : states.Nature) (moves : List (ℕ × states.Move)) (i : ℕ) : Type 0 where
  pub number : ℕ
  pub move : states.Move
  pub made_there : slice_get moves number ≡ Some (i, move)
  pub allowed : is_some (state_of nature (take number moves)) ≡ true
  pub not_allowed : state_of nature (take (number + 1) moves) ≡ None

-- what is known by index of each task: its state, if its moves were allowed; the first place at which a move
-- was not, and all such places as far as there are marks
pub record ProgressView : Type 0 where
  pub states : List (Option State)
  pub refused : Option ℕ
  pub marks : List Bool

-- the earlier of the two, where there are two
abbrev pub earlier_of : Option ℕ → ℕ → ℕ
earlier_of None at = at
earlier_of (Some first) at = if ltb first at then first else at

-- the first place at which a move was not allowed, after a move at this place from the one state to the
-- other
abbrev pub refused_after : Option ℕ → Option State → Option State → ℕ → Option ℕ
refused_after refused (Some state) None at = Some (earlier_of refused at)
refused_after refused _ _ at = refused

-- the marks after the same move: its place is marked, if there is a mark for it
abbrev pub marks_after : List Bool → Option State → Option State → ℕ → List Bool
marks_after marks (Some state) None at = set marks at true
marks_after marks _ _ at = marks

-- a move of one of the tasks at i is the first that its state does not allow
abbrev pub IsRefusedOf : List Record → List ℕ → (ℕ → List (ℕ × states.Move)) → ℕ → Type 0
IsRefusedOf rs tasks moves i =
    (task : ℕ) × Contains tasks task × IsMoveRefused (nature_of rs task) (moves task) i

-- each task has the state after these moves
pub record HasCome (rs : List Record) (tasks : List ℕ) (moves : ℕ → List (ℕ × states.Move))
    (progress : ProgressView) : Type 0 where
  pub all : length progress.states ≡ length tasks
  pub each : (n task : ℕ) → slice_get tasks n ≡ Some task
      → slice_get progress.states n ≡ Some (state_of (nature_of rs task) (moves task))
  pub found : (i : ℕ) → progress.refused ≡ Some i
      → (task : ℕ) × IsMoveRefused (nature_of rs task) (moves task) i
  pub least : (task i : ℕ) → Contains tasks task → IsMoveRefused (nature_of rs task) (moves task) i
      → IsSomeAnd progress.refused (λ first. first ≤ i)
  pub marked : (i : ℕ) → i < length progress.marks
      → IsTrue (get_or progress.marks i false) ↔ IsRefusedOf rs tasks moves i

-- the moves of a task and, where the pass reads it for the task that was found, one more at n
abbrev pub and_move : Pass → List Record → ℕ → Option ℕ → Move → (ℕ → List (ℕ × states.Move)) → ℕ
    → List (ℕ × states.Move)
and_move pass rs n found step moves task =
    moves task ++ (if is_read pass rs task n && is_task task found then (n, the_move step) ∷ [] else [])

-- the moves of a task and, where the pass reads it for the task, all that the record at n makes
abbrev pub and_record : Pass → List Record → ℕ → (ℕ → List (ℕ × states.Move)) → ℕ → List (ℕ × states.Move)
and_record pass rs n moves task =
    moves task ++ (if is_read pass rs task n then moves_at rs task n else [])

-- each task's nature, by its index
abbrev pub AreNatures : List Record → List ℕ → List Nature → Type 0
AreNatures rs tasks natures =
    (n task : ℕ) → slice_get tasks n ≡ Some task
    → (nature : Nature) × (slice_get natures n ≡ Some nature) × (the_nature nature ≡ nature_of rs task)

-- where each task runs, by its index
abbrev pub AreHomes : List Record → List ℕ → List homes.Home → Type 0
AreHomes rs tasks homes =
    (n task : ℕ) → slice_get tasks n ≡ Some task → slice_get homes n ≡ Some (home_at rs task)

-- the natures and homes are those of the run's tasks
pub record AreOrigins (run : RunView) (natures : List Nature) (homes : List homes.Home) : Type 0 where
  pub of_run : IsRun run
  pub natures_are : AreNatures run.records run.family.tasks natures
  pub all : length natures ≡ length run.family.tasks
  pub homes_are : AreHomes run.records run.family.tasks homes
  pub homes_all : length homes ≡ length run.family.tasks

-- the first place below n at which the task runs next
abbrev pub first_start : List Record → ℕ → ℕ → Option ℕ
first_start rs n task = find (λ i. is_task task (at started rs i)) (range_with_len 0 n)

-- whether it is the status of an early fulfilment
abbrev pub is_early_status : Status → Bool
is_early_status EarlyFulfill = true
is_early_status _ = false

-- whether the record fulfils some task's event early
abbrev pub fulfils_early : List Record → ℕ → Bool
fulfils_early rs i = option_map_or is_early_status (at says_status rs i) false

-- whether the move is an early fulfilment of the task's event
abbrev pub is_early_step : Move → Bool
is_early_step (Stopped status) = is_early_status status
is_early_step Started = false
is_early_step Discarded = false

-- whether the move begins or ends a turn
abbrev pub is_turn_step : Move → Bool
is_turn_step (Stopped status) = demands_next status
is_turn_step Started = true
is_turn_step Discarded = false

-- whether a record of this thread is at a home
abbrev pub is_at : homes.Home → ℕ → Bool
is_at (runs.On own) thread = thread == own
is_at runs.Nowhere thread = false
is_at runs.Many thread = false

-- whether it is that of a task that moved
abbrev pub is_many : homes.Home → Bool
is_many runs.Many = true
is_many runs.Nowhere = false
is_many (runs.On own) = false

-- whether a pass reads a record that is an early fulfilment or not, at home or not, in a turn of a task that
-- moved or not
abbrev pub reads : Pass → Bool → Bool → Bool → Bool
reads Early early home turned = early && not home
reads Home early home turned = home
reads Rest early home turned = not early && not home && not turned

-- the record at the place may make this move of the task with the index; the move shows whether it is an
-- early fulfilment there, and whether it begins or ends a turn
pub record IsMoveOf (run : RunView) (i index : ℕ) (step : Move) : Type 0 where
  pub within : i < length run.records
  pub task : ℕ
  pub indexed : slice_get run.family.tasks index ≡ Some task
  pub early : is_early run.records task i ≡ is_early_step step
  pub switch : is_switch run.records i ≡ is_turn_step step
