use Rattle.std.proofs.Common.{ℕ}
use Rattle.depend_edges.specs.Edges.{ArePredecessors}
use Rattle.checker.specs.Starts.{IsFirstOf}
use Rattle.checker.proofs.starts.Precedence.first_behind.Given as goal

-- of those so far the late one that is created first is known
abbrev pub invariant-loop-at : goal.invariant-loop-at
invariant-loop-at l =
    (task : ℕ) → ArePredecessors l.self.own.run.records task l.predecessors
    → IsFirstOf l.self.file.records l.self.own.run.records l.predecessors l.bound l.at l.first
