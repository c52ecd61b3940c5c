use Rattle.std.specs.Result.{result_err}
use Rattle.ompt_events.specs.declared.cause.Cause.TheVariants.{CreatedTwice}
use Rattle.ompt_events.specs.Records.{made}
use Rattle.ompt_events.proofs.FaultLemmas.{malformed_alone}
use Rattle.task_tree.specs.Makers.{least_of}
use Rattle.packed_trace.specs.Packed.{forked_region}
use Rattle.task_tree.proofs.MakerLemmas.{gathered_noted, gathered_made, never_again, never_twice}
use Rattle.task_tree.proofs.MakerLemmas.{task_again, region_again}
use Rattle.task_tree.proofs.makers.find_made.Goals as goal

pub returns-in-Err-clause-found : goal.returns-in-Err-clause-found
returns-in-Err-clause-found c =
    let rs = c.args.trace.now.records in
    let tasks = c.in_ok-tasks.field-0.tasks in
    let regions = c.in_ok-tasks.field-0.regions in
    let again = rw c.in-Err.is at c.in_ok-tasks-2.ensures.again in
    rw (c.first_again.ensures, c.err-region.ensures.value)
    (malformed_alone rs CreatedTwice (least_of c.in-Err.task (result_err c.in_ok-number-in-Err.field-0))
    (task_again rs tasks.ids.items tasks.places.items regions.ids.items regions.places.items c.in-Err.task
    c.in_ok-number-in-Err.field-0 c.in_ok-tasks.ensures.tasks c.in_ok-tasks.ensures.regions again
    c.in_ok-number-in-Err.ensures.apart c.in_ok-number-in-Err.ensures.again))

pub returns-in-Ok-2-clause-tasks : goal.returns-in-Ok-2-clause-tasks
returns-in-Ok-2-clause-tasks c =
    let names = c.in_ok-tasks.field-0.tasks in
    rw (rw c.in-Ok.is at c.in_ok-tasks-2.ensures.ids)
    (gathered_noted made c.args.trace.now.records names.ids.items names.places.items
    c.in_ok-tasks.ensures.tasks)

pub returns-in-Ok-2-clause-places : goal.returns-in-Ok-2-clause-places
returns-in-Ok-2-clause-places c =
    let names = c.in_ok-tasks.field-0.tasks in
    rw (rw c.in-Ok.is at c.in_ok-tasks-2.ensures.ids, rw c.in-Ok.is at c.in_ok-tasks-2.ensures.places)
    (gathered_made c.args.trace.now.records names.ids.items names.places.items c.in_ok-tasks.ensures.tasks
    (rw c.in-Ok.is at c.in_ok-tasks-2.ensures.apart))

pub returns-in-Ok-2-clause-regions : goal.returns-in-Ok-2-clause-regions
returns-in-Ok-2-clause-regions c =
    let names = c.in_ok-tasks.field-0.regions in
    rw (rw c.in-Ok-2.is at c.in_ok-regions.ensures.ids)
    (gathered_noted forked_region c.args.trace.now.records names.ids.items names.places.items
    c.in_ok-tasks.ensures.regions)

pub returns-in-Ok-2-clause-begun : goal.returns-in-Ok-2-clause-begun
returns-in-Ok-2-clause-begun c =
    rw (rw c.in-Ok-2.is at c.in_ok-regions.ensures.ids) c.in_ok-tasks.ensures.regions.listed

pub returns-in-Ok-2-clause-free : goal.returns-in-Ok-2-clause-free
returns-in-Ok-2-clause-free c =
    let tasks = c.in_ok-tasks.field-0.tasks in
    let regions = c.in_ok-tasks.field-0.regions in
    never_twice c.args.trace.now.records
    (never_again made c.args.trace.now.records tasks.ids.items tasks.places.items c.in_ok-tasks.ensures.tasks
    (rw c.in-Ok.is at c.in_ok-tasks-2.ensures.apart))
    (never_again forked_region c.args.trace.now.records regions.ids.items regions.places.items
    c.in_ok-tasks.ensures.regions (rw c.in-Ok-2.is at c.in_ok-regions.ensures.apart))

pub returns-in-Err-2-clause-found : goal.returns-in-Err-2-clause-found
returns-in-Err-2-clause-found c =
    let rs = c.args.trace.now.records in
    let tasks = c.in_ok-tasks.field-0.tasks in
    let regions = c.in_ok-tasks.field-0.regions in
    let apart = rw c.in-Ok.is at c.in_ok-tasks-2.ensures.apart in
    let again = rw c.in-Err-2.is at c.in_ok-regions.ensures.again in
    rw c.first_again-in-Err-2.ensures
    (malformed_alone rs CreatedTwice c.in-Err-2.region
    (region_again rs tasks.ids.items tasks.places.items regions.ids.items regions.places.items
    c.in-Err-2.region c.in_ok-tasks.ensures.tasks c.in_ok-tasks.ensures.regions apart again))
