use Rattle.depend_edges.specs.Maxima.{IsGreatest}
use Rattle.depend_edges.proofs.maxima.greatest.Given as goal

-- the items so far
abbrev pub invariant-loop-at : goal.invariant-loop-at
invariant-loop-at l = IsGreatest l.map l.items l.at l.greatest
