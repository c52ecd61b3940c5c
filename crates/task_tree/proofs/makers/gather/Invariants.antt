use Rattle.ompt_events.specs.Records.{made}
use Rattle.task_tree.specs.Makers.{AreGathered}
use Rattle.packed_trace.specs.Packed.{forked_region}
use Rattle.task_tree.proofs.makers.gather.Given as goal

-- what the records so far make
abbrev pub invariant-loop-at : goal.invariant-loop-at
invariant-loop-at l = record {
  tasks : AreGathered made l.trace.records l.at l.tasks.ids.items l.tasks.places.items;
  regions : AreGathered forked_region l.trace.records l.at l.regions.ids.items l.regions.places.items;
}
