use Rattle.ompt_events.specs.declared.cause.Cause.TheVariants.{RegionOrder}
use Rattle.task_states.specs.Regions.{IsEarliest}
use Rattle.task_states.proofs.RegionLemmas.{AreOpen}
use Rattle.task_states.proofs.regions.link_regions.Given as goal

-- the open regions are known, and the first place in the file of the records so far that have the cause
abbrev pub invariant-loop-number : goal.invariant-loop-number
invariant-loop-number l = record {
  open_ones : AreOpen l.run.records l.number l.run.family.tasks l.innermost.items l.links.items;
  earliest : IsEarliest l.own RegionOrder l.number l.earliest;
}
