-- Where tasks that moved begin and end their turns.
use Rattle.std.specs.Prelude.{ℕ, ◌≡◌, ◌<◌, ◌==◌, Bool, true, false, List, [], ◌∷◌, Option, Some}
use Rattle.std.specs.Prelude.{None, if◌then◌else◌, filter, option_and_then, slice_get}
use Rattle.std.specs.List.{range_with_len}
use Rattle.std.specs.Option.{option_map_or}
use Rattle.std.specs.Global.{Vec}
use Rattle.ompt_events.specs.declared.records.Record.{Record}
use Rattle.ompt_events.specs.declared.records.Body.{Body}
use Rattle.ompt_events.specs.Records.{begun_turn, ended_turn}
use Rattle.ompt_events.specs.Places.{at}
use Rattle.ompt_events.specs.States as states
use Rattle.ompt_events.specs.States.{has_moved, turn_starts_at, turn_ends_at}
use Rattle.task_tree.specs.Runs.{RunView}
use Rattle.task_states.specs.declared.moves.Move.{Move}
use Rattle.task_states.specs.declared.turn_edges.Edge.{Edge}
use Rattle.task_states.specs.declared.turn_edges.Edge.TheVariants.{Begins, Ends}
use Rattle.task_states.specs.Progress.{the_move}
use Rattle.task_states.specs.Rows.{row_at}

-- the task that begins a turn, or ends one, and the turn
abbrev pub edge_turn : Edge → Body → Option (ℕ × ℕ)
edge_turn Begins body = begun_turn body
edge_turn Ends body = ended_turn body

-- the turn that a task which moved begins, or ends, at the place
abbrev pub moved_turn : Edge → List Record → ℕ → Option ℕ
moved_turn edge rs i =
    option_and_then (λ (b : ℕ × ℕ). if has_moved rs b.0 then Some b.1 else None) (at (edge_turn edge) rs i)

-- whether a task which moved begins, or ends, this turn at the place
abbrev pub is_edge : Edge → List Record → ℕ → ℕ → Bool
is_edge edge rs turn i = option_map_or (λ t. t == turn) (moved_turn edge rs i) false

-- the moves by which the task begins the turn, or ends it, at the place
abbrev pub edge_moves : Edge → List Record → ℕ → ℕ → ℕ → List (ℕ × states.Move)
edge_moves Begins rs task turn i = turn_starts_at rs task turn i
edge_moves Ends rs task turn i = turn_ends_at rs task turn i

-- by turn the places below n at which tasks that moved begin it, or end it
abbrev pub AreEdges : Edge → List Record → ℕ → ℕ → List (Vec ℕ) → Type 0
AreEdges edge rs n turns rows =
    (turn : ℕ) → turn < turns → row_at rows turn ≡ filter (is_edge edge rs turn) (range_with_len 0 n)

-- no task that moved begins a turn, or ends one, at the place
abbrev pub IsNoEdge : List Record → Edge → ℕ → Type 0
IsNoEdge rs edge i = (turn : ℕ) → is_edge edge rs turn i ≡ true → ⊥

-- where a task that moved begins a turn, or ends one, it is the task at the index, by this move alone
pub record IsEdgeMove (run : RunView) (edge : Edge) (i index : ℕ) (step : Move) : Type 0 where
  pub task : ℕ
  pub indexed : slice_get run.family.tasks index ≡ Some task
  pub alone : (turn other : ℕ) → is_edge edge run.records turn i ≡ true
      → edge_moves edge run.records other turn i ≡ (if task == other then (i, the_move step) ∷ [] else [])
