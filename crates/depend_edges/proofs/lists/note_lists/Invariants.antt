use Rattle.depend_edges.specs.Lists.{AreListed}
use Rattle.depend_edges.proofs.lists.note_lists.Given as goal

-- the lists so far
abbrev pub invariant-loop-at : goal.invariant-loop-at
invariant-loop-at l = AreListed l.run.records l.at l.run.family.tasks l.lists.items
