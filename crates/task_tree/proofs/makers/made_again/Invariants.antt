use Rattle.ompt_events.specs.Records.{made}
use Rattle.ompt_events.specs.Shown.{AreAllBelow}
use Rattle.packed_trace.specs.Packed.{forked_region}
use Rattle.task_tree.specs.Makers.{AreNamedBefore, MakesAgain}
use Rattle.task_tree.proofs.makers.made_again.Given as goal

-- what the records so far make, and which of them make something again
abbrev pub invariant-loop-at : goal.invariant-loop-at
invariant-loop-at l = record {
  tasks : AreNamedBefore made l.trace.records l.at l.tasks;
  regions : AreNamedBefore forked_region l.trace.records l.at l.regions;
  places : AreAllBelow (MakesAgain l.trace.records) l.at l.shown;
}
