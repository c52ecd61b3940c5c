use Rattle.task_tree.specs.OwnOrder.{AreOrderNumbers}
use Rattle.task_tree.proofs.own_order.numbers_of.Given as goal

-- the numbers of the places so far
abbrev pub invariant-loop-number : goal.invariant-loop-number
invariant-loop-number l = AreOrderNumbers l.places l.number l.numbers.items
