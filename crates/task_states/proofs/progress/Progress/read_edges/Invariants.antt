use Rattle.std.proofs.Common.{◌≡◌, ◌++◌, ℕ, List, length, true, take}
use Rattle.std.specs.Prelude.{All}
use Rattle.std.specs.List.{flat_map}
use Rattle.ompt_events.specs.States.{Move}
use Rattle.task_states.specs.Progress.{HasCome}
use Rattle.task_states.specs.TurnEdges.{is_edge, edge_moves}
use Rattle.task_states.proofs.progress.Progress.read_edges.Given as goal

-- the places so far were gone over
abbrev pub invariant-loop-at : goal.invariant-loop-at
invariant-loop-at l = record {
  all : length l.self.states ≡ length l.origins.family.tasks;
  come : (turn : ℕ) → All (λ place. is_edge l.edge l.origins.records turn place ≡ true) l.places
      → (moves : ℕ → List (ℕ × Move)) → HasCome l.origins.records l.origins.family.tasks moves l.initial.self
      → HasCome l.origins.records l.origins.family.tasks
      (λ task.
      moves task
      ++ flat_map (edge_moves l.edge l.origins.records task turn) (take l.at-index l.places))
      l.self;
  marks : length l.self.marks ≡ length l.initial.self.marks;
}
