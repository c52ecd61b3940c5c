use Rattle.std.proofs.Common.{take}
use Rattle.task_tree.specs.Roots.{Spreads}
use Rattle.task_tree.proofs.roots.reach_children.Given as goal

-- the children so far are reached
abbrev pub invariant-loop-child : goal.invariant-loop-child
invariant-loop-child l =
    Spreads l.tasks l.standing l.initial.roots.items l.initial.order.items (take l.child-index l.children)
    l.roots.items l.order.items
