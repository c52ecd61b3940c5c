use Rattle.task_states.specs.TurnEdges.{AreEdges}
use Rattle.task_states.proofs.turn_edges.find_edges.Given as goal

-- the places so far
abbrev pub invariant-loop-at : goal.invariant-loop-at
invariant-loop-at l = AreEdges l.edge l.origins.records l.at l.turns l.rows.items
