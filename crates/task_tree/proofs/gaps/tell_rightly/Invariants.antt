use Rattle.std.proofs.Common.{ℕ, ◌<◌}
use Rattle.task_tree.specs.Gaps.{TellsRightly}
use Rattle.task_tree.proofs.gaps.tell_rightly.Given as goal

-- the records so far tell what they must
abbrev pub invariant-loop-at : goal.invariant-loop-at
invariant-loop-at l = (i : ℕ) → i < l.at → TellsRightly l.trace.records i
