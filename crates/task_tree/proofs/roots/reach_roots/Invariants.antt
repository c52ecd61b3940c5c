use Rattle.task_tree.specs.Roots.{IsSeeded}
use Rattle.task_tree.proofs.roots.reach_roots.Given as goal

-- the roots of the records so far are reached
abbrev pub invariant-loop-at : goal.invariant-loop-at
invariant-loop-at l = IsSeeded l.trace.records l.at l.tasks l.roots.items l.order.items
