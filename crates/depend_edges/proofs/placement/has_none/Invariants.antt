use Rattle.std.proofs.Common.{ℕ, ◌<◌}
use Rattle.depend_edges.specs.Placement.{HasNoneAt}
use Rattle.depend_edges.proofs.placement.has_none.Given as goal

-- no record so far has dependences
abbrev pub invariant-loop-at : goal.invariant-loop-at
invariant-loop-at l = (k : ℕ) → k < l.at → HasNoneAt l.run.records k
