use Rattle.task_tree.specs.GapSearch.{AreRootsBegun}
use Rattle.task_tree.proofs.gap_search.find_roots.Given as goal

-- the roots that begin by the records so far
abbrev pub invariant-loop-at : goal.invariant-loop-at
invariant-loop-at l = AreRootsBegun l.trace.records l.at l.roots
