use Rattle.depend_edges.specs.Latest.{AreMaximaOf, AreLatestUpTo}
use Rattle.depend_edges.proofs.latest.take_children.Given as goal

-- the children so far
abbrev pub invariant-loop-number : goal.invariant-loop-number
invariant-loop-number l = record {
  maxima : AreMaximaOf l.lengths l.up l.number l.maxima;
  latest : AreLatestUpTo l.lengths l.up l.number l.latest.items;
}
