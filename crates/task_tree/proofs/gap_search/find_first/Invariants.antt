use Rattle.task_tree.specs.GapSearch.{AreFirst}
use Rattle.task_tree.proofs.gap_search.find_first.Given as goal

-- the first begins by the records so far
abbrev pub invariant-loop-at : goal.invariant-loop-at
invariant-loop-at l = AreFirst l.trace.records l.at l.first
