-- How a task comes from its creation to its completion.
use Rattle.std.specs.Prelude.{ℕ, ◌==◌, ◌&&◌, Bool, true, false, not, List, [], ◌∷◌, ◌++◌, Option, Some, None}
use Rattle.std.specs.Prelude.{is_some, if◌then◌else◌, filter, fold, find, map, slice_get, option_and_then}
use Rattle.std.specs.List.{flat_map, range_with_len}
use Rattle.std.specs.Option.{option_map_or}
use Rattle.ompt_events.specs.declared.records.Record.{Record}
use Rattle.ompt_events.specs.declared.records.Body.{Body}
use Rattle.ompt_events.specs.declared.records.Body.TheVariants.{TaskCreate, TaskSchedule}
use Rattle.ompt_events.specs.declared.names.Status.{Status}
use Rattle.ompt_events.specs.declared.names.Status.TheVariants as status
use Rattle.ompt_events.specs.declared.state.State.{State}
use Rattle.ompt_events.specs.declared.state.State.TheVariants.{Created, Running, Suspended, EarlyRunning}
use Rattle.ompt_events.specs.declared.state.State.TheVariants.{EarlyWaiting, Detached, Done}
use Rattle.ompt_events.specs.Names.{demands_next}
use Rattle.ompt_events.specs.Flags as flag
use Rattle.ompt_events.specs.Flags.{has_flag}
use Rattle.ompt_events.specs.Records.{begun_root, started, told_turns, begun_turn, ended_turn, discarded}
use Rattle.ompt_events.specs.Places.{at, thread_at, places}
use Rattle.ompt_events.specs.Turns.{is_turn, turns_in}

-- the state of a task after a schedule event with this status, where its state allows one: the table of the
-- format
abbrev pub next_state_of : State → Status → Option State
next_state_of Created status.EarlyFulfill = Some EarlyWaiting
next_state_of Created status.TaskwaitComplete = Some Done
next_state_of Running status.Complete = Some Done
next_state_of Running status.Yield = Some Suspended
next_state_of Running status.Cancel = Some Done
next_state_of Running status.Detach = Some Detached
next_state_of Running status.EarlyFulfill = Some EarlyRunning
next_state_of Running status.Switch = Some Suspended
next_state_of Suspended status.EarlyFulfill = Some EarlyWaiting
next_state_of EarlyRunning status.Complete = Some Done
next_state_of EarlyRunning status.Yield = Some EarlyWaiting
next_state_of EarlyRunning status.Switch = Some EarlyWaiting
next_state_of Detached status.LateFulfill = Some Done
next_state_of _ _ = None

-- the state after it runs next
abbrev pub start_state_of : State → Option State
start_state_of Created = Some Running
start_state_of Suspended = Some Running
start_state_of EarlyWaiting = Some EarlyRunning
start_state_of _ = None

-- the state after it is discarded (OpenMP 5.2, 11.5)
abbrev pub discard_state_of : State → Option State
discard_state_of Created = Some Done
discard_state_of _ = None

-- what a record does to a task
pub data Move : Type 0 where
  Stopped : Status → Move
  Started : Move
  Discarded : Move

-- whether it is this task
abbrev pub is_task : ℕ → Option ℕ → Bool
is_task task found = option_map_or (λ t. t == task) found false

-- the moves of the task that the record makes: as the prior task before as the next one
abbrev pub stops : ℕ → Body → List Move
stops task (TaskSchedule status turns prior next claimed) = if prior == task then Stopped status ∷ [] else []
stops task _ = []

abbrev pub moves_by : ℕ → Body → List Move
moves_by task body =
    stops task body ++ (if is_task task (started body) then Started ∷ [] else [])
    ++ (if is_task task (discarded body) then Discarded ∷ [] else [])

-- the same at a place, each move with the place
abbrev pub moves_at : List Record → ℕ → ℕ → List (ℕ × Move)
moves_at rs task i =
    map (λ move. (i, move)) (option_map_or (λ (r : Record). moves_by task r.body) (slice_get rs i) [])

-- the thread on which a task begins as a root, or first runs; some tasks have none
abbrev pub begun_on : List Record → ℕ → Option ℕ
begun_on rs task = option_and_then (thread_at rs) (find (λ i. is_task task (at begun_root rs i)) (places rs))

abbrev pub run_on : List Record → ℕ → Option ℕ
run_on rs task = option_and_then (thread_at rs) (find (λ i. is_task task (at started rs i)) (places rs))

abbrev pub home_of : List Record → ℕ → Option ℕ
home_of rs task = if is_some (begun_on rs task) then begun_on rs task else run_on rs task

-- whether the record is on that thread, if there is one
abbrev pub is_on : List Record → Option ℕ → ℕ → Bool
is_on rs home i = option_map_or (λ h. option_map_or (λ t. t == h) (thread_at rs i) false) home false

-- whether the record fulfils the task's event before its body has ended
abbrev pub is_early : List Record → ℕ → ℕ → Bool
is_early rs task i = option_map_or (λ (r : Record). early r.body) (slice_get rs i) false
  where
    early : Body → Bool
    early (TaskSchedule status.EarlyFulfill turns prior next claimed) = prior == task
    early _ = false

-- the places at which a task moves, in the order in which its moves are read: fulfilments ahead of its
-- home, its home's records, all others
abbrev pub places_of : List Record → ℕ → List ℕ
places_of rs task =
    filter (λ i. is_early rs task i && not (is_on rs (home_of rs task) i)) (places rs)
    ++ filter (is_on rs (home_of rs task)) (places rs)
    ++ filter (λ i. not (is_early rs task i) && not (is_on rs (home_of rs task) i)) (places rs)

-- all moves of the task in that order
abbrev pub moves_of : List Record → ℕ → List (ℕ × Move)
moves_of rs task = flat_map (moves_at rs task) (places_of rs task)

-- whether the task runs on another thread than its home, as its recorded turns show
abbrev pub has_moved : List Record → ℕ → Bool
has_moved rs task = is_some (find (λ i. is_told_start i && not (is_on rs (home_of rs task) i)) (places rs))
  where
    is_told_start : ℕ → Bool
    is_told_start i = is_task task (at started rs i) && is_some (at told_turns rs i)

-- the move by which the task begins the turn there, and that by which it ends it
abbrev pub turn_starts_at : List Record → ℕ → ℕ → ℕ → List (ℕ × Move)
turn_starts_at rs task turn i = if is_turn task turn (at begun_turn rs i) then (i, Started) ∷ [] else []

abbrev pub turn_ends_at : List Record → ℕ → ℕ → ℕ → List (ℕ × Move)
turn_ends_at rs task turn i =
    if is_turn task turn (at ended_turn rs i) then map (λ move. (i, move)) stopped_there else []
  where
    stopped_there : List Move
    stopped_there = option_map_or (λ (r : Record). stops task r.body) (slice_get rs i) []

-- whether the move fulfils the task's event before its body has ended; begins or ends a turn; or does
-- neither
abbrev pub is_early_move : Move → Bool
is_early_move (Stopped status.EarlyFulfill) = true
is_early_move _ = false

abbrev pub is_turn_move : Move → Bool
is_turn_move (Stopped status) = demands_next status
is_turn_move Started = true
is_turn_move Discarded = false

abbrev pub is_apart : Move → Bool
is_apart move = not (is_early_move move) && not (is_turn_move move)

-- all moves of the task that pass, in file order
abbrev pub moves_by_file : List Record → ℕ → (Move → Bool) → List (ℕ × Move)
moves_by_file rs task passes =
    filter (λ (step : ℕ × Move). passes step.1) (flat_map (moves_at rs task) (places rs))

-- the moves by which it begins the turn, then those by which it ends it
abbrev pub turn_moves : List Record → ℕ → ℕ → List (ℕ × Move)
turn_moves rs task turn =
    flat_map (turn_starts_at rs task turn) (places rs) ++ flat_map (turn_ends_at rs task turn) (places rs)

-- the moves of a task that moved: early fulfilments, then turn by turn its start and its end, then all
-- others
abbrev pub moved_moves : List Record → ℕ → List (ℕ × Move)
moved_moves rs task =
    moves_by_file rs task is_early_move
    ++ flat_map (turn_moves rs task) (range_with_len 0 (turns_in rs))
    ++ moves_by_file rs task is_apart

-- all moves of any task
abbrev pub all_moves_of : List Record → ℕ → List (ℕ × Move)
all_moves_of rs task = if has_moved rs task then moved_moves rs task else moves_of rs task

-- what a task is: a root, a taskwait with dependences (a task that is created with the flag `taskwait`), or
-- any other
pub data Nature : Type 0 where
  Root : Nature
  Wait : Nature
  Plain : Nature

-- a root only yields, switches and runs next; a taskwait with dependences only has the status
-- `taskwait_complete`, and no other task has it
abbrev pub may : Nature → Move → Bool
may Root (Stopped status.Yield) = true
may Root (Stopped status.Switch) = true
may Root Started = true
may Root _ = false
may Wait (Stopped status.TaskwaitComplete) = true
may Wait _ = false
may Plain (Stopped status.TaskwaitComplete) = false
may Plain _ = true

-- the state after a move, where there is one
abbrev pub move_state : State → Move → Option State
move_state state (Stopped status) = next_state_of state status
move_state state Started = start_state_of state
move_state state Discarded = discard_state_of state

abbrev pub state_after : Nature → Option State → ℕ × Move → Option State
state_after nature before step =
    if may nature step.1 then option_and_then (λ state. move_state state step.1) before else None

abbrev pub first_state : Nature → State
first_state Root = Running
first_state _ = Created

-- the state after these moves
abbrev pub state_of : Nature → List (ℕ × Move) → Option State
state_of nature moves = fold (state_after nature) (Some (first_state nature)) moves

abbrev pub creates_wait : ℕ → Body → Bool
creates_wait task (TaskCreate deps flags parent child) = (child == task) && has_flag flags.0 flag.taskwait
creates_wait task _ = false

abbrev pub is_made_so : (Body → Bool) → List Record → Bool
is_made_so test rs = is_some (find (λ (r : Record). test r.body) rs)

abbrev pub nature_of : List Record → ℕ → Nature
nature_of rs task =
    if is_made_so (λ b. is_task task (begun_root b)) rs then Root
    else if is_made_so (creates_wait task) rs then Wait else Plain
