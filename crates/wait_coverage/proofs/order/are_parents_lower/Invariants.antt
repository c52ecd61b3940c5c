use Rattle.std.proofs.Common.{ℕ, ◌≡◌, ◌<◌, Some}
use Rattle.task_tree.specs.Lineage.{parent_index}
use Rattle.wait_coverage.proofs.order.are_parents_lower.Given as goal

-- the parents so far are lower
abbrev pub invariant-loop-index : goal.invariant-loop-index
invariant-loop-index l = (index up : ℕ) → index < l.index → parent_index l.family index ≡ Some up → up < index
