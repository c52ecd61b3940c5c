use Rattle.task_tree.specs.Subjects.{AreFoundUpTo}
use Rattle.packed_trace.specs.Named.{subject, object}
use Rattle.std.specs.Prelude.{IsTrue}
use Rattle.task_tree.specs.Rootless.{AllNameKnown}
use Rattle.task_tree.specs.Links.{AreChildCounts, AreLinks}
use Rattle.task_tree.proofs.subjects.find_subjects.Given as goal

-- the tasks that the records so far name are found, with the counts and links that those records make
abbrev pub invariant-loop-at : goal.invariant-loop-at
invariant-loop-at l = record {
  subjects : AreFoundUpTo subject l.trace.records l.at l.tasks l.subjects.items;
  objects : AreFoundUpTo object l.trace.records l.at l.tasks l.objects.items;
  known : IsTrue l.known → AllNameKnown l.trace.records l.at l.tasks l.regions;
  counts : AreChildCounts l.trace.records l.at l.tasks l.counts.items;
  links : AreLinks l.trace.records l.at l.tasks l.links.items;
}
