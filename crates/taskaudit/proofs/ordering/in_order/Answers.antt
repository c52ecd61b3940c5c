use Rattle.taskaudit.proofs.OrderingLemmas.{same_records, same_trace}
use Rattle.taskaudit.proofs.ordering.in_order.Goals as goal

pub from_parts-requires : goal.from_parts-requires
from_parts-requires c =
    let rs = c.into_records.result.items in
    rw (c.version-version.ensures, c.in-Ok.ensures, c.into_records.ensures.value)
    (same_trace c.args.trace.version c.args.trace.records _
    (same_records c.args.trace.records c.args.order.now c.requires)
    (rw c.into_records.ensures.value at c.into_records.ensures.is_trace))
