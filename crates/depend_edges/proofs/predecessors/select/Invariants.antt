use Rattle.depend_edges.specs.Predecessors.{AreSelected}
use Rattle.depend_edges.proofs.predecessors.select.Given as goal

-- the siblings so far
abbrev pub invariant-loop-at : goal.invariant-loop-at
invariant-loop-at l = AreSelected l.edges.run.records l.items l.siblings l.at l.found.items
