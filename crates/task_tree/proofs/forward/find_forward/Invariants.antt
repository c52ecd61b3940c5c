use Rattle.task_tree.specs.Forward.{AreStandingsKnown}
use Rattle.task_tree.proofs.forward.find_forward.Given as goal

-- the tasks so far stand
abbrev pub invariant-loop-index : goal.invariant-loop-index
invariant-loop-index l = AreStandingsKnown l.trace.records l.index l.tasks l.roots.items
