use Rattle.task_tree.specs.TurnTable.{IsTableAt}
use Rattle.task_tree.proofs.turn_table.turns_of.Given as goal

-- the threads so far are gone over
abbrev pub invariant-loop-thread : goal.invariant-loop-thread
invariant-loop-thread l = IsTableAt l.trace.records l.family.tasks l.thread 0 l.walk
