use Rattle.std.proofs.Common.{ℕ}
use Rattle.depend_edges.specs.Edges.{ArePredecessors}
use Rattle.checker.specs.Starts.{AreLateOf}
use Rattle.checker.proofs.starts.Precedence.all_late_of.Given as goal

-- those of the first predecessors that are late
abbrev pub invariant-loop-predecessor : goal.invariant-loop-predecessor
invariant-loop-predecessor l =
    (task : ℕ) → ArePredecessors l.self.own.run.records task l.predecessor-items
    → AreLateOf l.self.own.run.records l.bound l.predecessor-items l.predecessor-index l.late.items
