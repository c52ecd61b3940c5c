use Rattle.depend_edges.specs.Placement.{AreLastOfThreads, AreListsMarked}
use Rattle.depend_edges.proofs.placement.find_marks.Given as goal

-- the threads and the marks so far
abbrev pub invariant-loop-at : goal.invariant-loop-at
invariant-loop-at l = record {
  last : AreLastOfThreads l.run.records l.at l.last.items;
  marks : AreListsMarked l.run.records l.at l.marks.items;
}
