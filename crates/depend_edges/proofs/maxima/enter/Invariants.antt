use Rattle.depend_edges.specs.Maxima.{AreLengthsEntered}
use Rattle.depend_edges.proofs.maxima.enter.Given as goal

-- the items so far
abbrev pub invariant-loop-at : goal.invariant-loop-at
invariant-loop-at l = AreLengthsEntered l.initial.map l.map l.items l.at l.task_length
