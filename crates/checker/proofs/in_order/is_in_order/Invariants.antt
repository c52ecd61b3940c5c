use Rattle.checker.specs.InOrder.{AreInOrder, AreLastSuspensions}
use Rattle.checker.proofs.in_order.is_in_order.Given as goal

-- the records so far are in such an order, and what is kept of the tasks is right
abbrev pub invariant-loop-at : goal.invariant-loop-at
invariant-loop-at l = record {
  so_far : AreInOrder l.run.records l.at l.entries l.known;
  lasts : AreLastSuspensions l.run.records l.run.family.tasks l.lasts.items;
}
