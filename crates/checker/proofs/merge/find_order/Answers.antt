use Rattle.std.proofs.lemmas.Result.{err_from_is_err_and}
use Rattle.ompt_events.specs.declared.cause.Cause.TheVariants.{NoOrder}
use Rattle.ompt_events.specs.Faults.{FindsFirst}
use Rattle.checker.specs.Merge.{IsMerged}
use Rattle.checker.proofs.MergingLemmas.{all_unordered, all_stand, all_ordered}
use Rattle.checker.proofs.merge.find_order.Goals as goal

pub returns-in_err-exclude-clause-fault : goal.returns-in_err-exclude-clause-fault
returns-in_err-exclude-clause-fault c =
    let rs = c.args.makers.now.run.records in
    let merged = c.in_ok-order.field-0 in
    let is : IsMerged rs c.args.base.items merged.order.items merged.placed.items = c.in_ok-order.ensures in
    let finds : FindsFirst rs NoOrder c.first-2.result =
    c.first-2.ensures.found rs NoOrder
    (all_unordered rs c.args.base.items merged.order.items merged.placed.items c.in_ok-unplaced.field-0 is
    (rw c.deref.ensures.value at c.in_ok-unplaced.ensures)) in
    let p =
    err_from_is_err_and c.from_residual-in_err-exclude.result c.from_residual-in_err-exclude.ensures.1 in
    rw (p.1, p.2) (c.in_err-exclude.ensures.fault rs finds)

pub returns-clause-linearization : goal.returns-clause-linearization
returns-clause-linearization c =
    let rs = c.args.makers.now.run.records in
    let merged = c.in_ok-order.field-0 in
    let is : IsMerged rs c.args.base.items merged.order.items merged.placed.items = c.in_ok-order.ensures in
    let finds : FindsFirst rs NoOrder c.first-2.result =
    c.first-2.ensures.found rs NoOrder
    (all_unordered rs c.args.base.items merged.order.items merged.placed.items c.in_ok-unplaced.field-0 is
    (rw c.deref.ensures.value at c.in_ok-unplaced.ensures)) in
    let full =
    all_stand rs merged.placed.items is.heads is.links merged.order.items is.standing is.ended
    (c.in_ok-exclude.ensures.free rs finds) in
    all_ordered rs merged.placed.items is.heads is.links merged.order.items is.standing full

pub returns-clause-free : goal.returns-clause-free
returns-clause-free c =
    let rs = c.args.makers.now.run.records in
    let merged = c.in_ok-order.field-0 in
    let is : IsMerged rs c.args.base.items merged.order.items merged.placed.items = c.in_ok-order.ensures in
    let finds : FindsFirst rs NoOrder c.first-2.result =
    c.first-2.ensures.found rs NoOrder
    (all_unordered rs c.args.base.items merged.order.items merged.placed.items c.in_ok-unplaced.field-0 is
    (rw c.deref.ensures.value at c.in_ok-unplaced.ensures)) in
    c.in_ok-exclude.ensures.free rs finds
