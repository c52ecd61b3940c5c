use Rattle.std.proofs.Common.{◌<◌, length}
use Rattle.std.proofs.lemmas.List.{take_more}
use Rattle.std.specs.Prelude.{take, slice_index}
use Rattle.checker.proofs.MergingLemmas.{ready_follows, standing_more}
use Rattle.checker.proofs.merge.Standing.of.Goals as goal
use Rattle.task_tree.proofs.GapFreeLemmas.{thread_there}

pub loop-index-preserved : goal.loop-index-preserved
loop-index-preserved c =
    let rs = c.args.run.now.records in
    let order = c.args.order.now in
    let k = c.loop-index.index in
    let place = slice_index order k in
    let links = c.loop-index.standing.links.items in
    let inside : k < length order = c.loop-index-test.true in
    let ready = c.requires k inside in
    let may =
    ready_follows rs c.loop-index.standing.placed.items c.loop-index.standing.heads.items links
    (take k order) place c.loop-index.invariant ready in
    let runs = thread_there rs place ready.within in
    let now =
    standing_more rs c.loop-index.standing.placed.items c.loop-index.standing.heads.items links
    (take k order) place runs.0 c.loop-index.invariant may runs.1 in
    rw (
      c.place.ensures.placed,
      c.place.ensures.heads runs.0 runs.1,
      c.place.ensures.links,
      take_more order k 0 inside,
    )
    now
