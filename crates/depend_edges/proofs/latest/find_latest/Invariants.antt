use Rattle.depend_edges.specs.Latest.{AreLatestUpTo}
use Rattle.depend_edges.proofs.latest.find_latest.Given as goal

-- the parents so far
abbrev pub invariant-loop-up : goal.invariant-loop-up
invariant-loop-up l = AreLatestUpTo l.lengths l.up 0 l.latest.items
