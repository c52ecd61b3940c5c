use Rattle.std.proofs.Common.{sym}
use Rattle.ompt_events.specs.Records.{made}
use Rattle.packed_trace.specs.Packed.{forked_region}
use Rattle.task_tree.proofs.MakerLemmas.{gathered_step}
use Rattle.task_tree.proofs.makers.gather.Goals as goal

pub loop-at-preserved : goal.loop-at-preserved
loop-at-preserved c =
    let rs = c.args.trace.now.records in
    let i = c.loop-at.at in
    record {
      tasks =
          gathered_step made rs i c.loop-at.tasks c.add.new.self c.made.result c.loop-at.invariant.tasks
          (sym c.made.ensures)
          c.in_ok-add.ensures;
      regions =
          gathered_step forked_region rs i c.loop-at.regions c.add-in-loop-at.new.self c.forked_region.result
          c.loop-at.invariant.regions (sym c.forked_region.ensures) c.in_ok-add-2.ensures;
    }
