use Rattle.std.proofs.Common.{inl, inr, arith}
use Rattle.ompt_events.specs.Records.{made}
use Rattle.ompt_events.proofs.ShownLemmas.{noted}
use Rattle.packed_trace.specs.Packed.{forked_region}
use Rattle.task_tree.specs.Makers.{MakesAgain}
use Rattle.task_tree.proofs.MakerLemmas.{again_either, all_again}
use Rattle.task_tree.proofs.makers.made_again.Goals as goal
use Rattle.task_tree.proofs.makers.made_again.Goals.{then-task, else-task}

pub loop-at-preserved : goal.loop-at-preserved
loop-at-preserved c =
    let rs = c.args.trace.now.records in
    let i = c.loop-at.at in
    let task = c.in_ok-task.ensures made rs i c.loop-at.invariant.tasks c.made.ensures in
    let region = c.in_ok-region.ensures forked_region rs i c.loop-at.invariant.regions c.forked_region.ensures
    in
    record {
      tasks = task.1;
      regions = region.1;
      places =
          noted (MakesAgain rs) i c.if-task.note c.loop-at.shown c.note.new.self
          (again_either rs i c.in_ok-task.task c.in_ok-region.region c.if-task.note task.0 region.0
          (elim c.if-task.branch [
            | then-task w ↦ inl (w.if-task.true, w.note-is)
            | else-task w ↦ inr (w.if-task.false, w.note-is)
          ]))
          c.in_ok-note.ensures c.loop-at.invariant.places;
    }

pub returns : goal.returns
returns c =
    let rs = c.args.trace.now.records in
    all_again rs c.loop-at.at
    c.loop-at.shown (omega (arith, c.loop-at.auto.at-end, c.loop-at-test.false, c.len-at-end.ensures.value))
    c.loop-at.invariant.places
