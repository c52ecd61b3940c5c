use Rattle.std.proofs.Common.{length}
use Rattle.std.proofs.lemmas.Result.{IfOk-weaker}
use Rattle.std.specs.Prelude.{IfOk}
use Rattle.ompt_events.specs.declared.cause.Cause.TheVariants.{NoOrder}
use Rattle.ompt_events.specs.Shown.{AreAll, AreAllWith}
use Rattle.checker.specs.Merge.{IsMerged, IsUnplaced}
use Rattle.checker.proofs.MergingLemmas.{all_unordered}
use Rattle.checker.proofs.merge.unordered.Goals as goal

pub returns : goal.returns
returns c =
    let rs = c.args.makers.now.run.records in
    let merged = c.in_ok-placed.field-0 in
    let is : IsMerged rs c.in_ok-none.none.items merged.order.items merged.placed.items =
    c.in_ok-placed.ensures in
    let are : IfOk c.unplaced.result (AreAll (IsUnplaced merged.placed.items) (length merged.placed.items)) =
    rw c.deref.ensures.value at c.unplaced.ensures in
    IfOk-weaker c.unplaced.result (AreAll (IsUnplaced merged.placed.items) (length merged.placed.items))
    (AreAllWith rs NoOrder)
    (λ places. all_unordered rs c.in_ok-none.none.items merged.order.items merged.placed.items places is) are
