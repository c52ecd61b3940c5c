use Rattle.std.proofs.Common.{sym}
use Rattle.checker.proofs.OrderLemmas.{no_place_in_file}
use Rattle.checker.proofs.verdict.Order.place_at.Goals as goal
use Rattle.ompt_events.proofs.ListLemmas.{range_get}

pub returns-then-before-records : goal.returns-then-before-records
returns-then-before-records c =
    rw (← c.self.view_is, c.in-InFile.is)
    (sym (range_get c.in-InFile.records c.args.before c.if-before-records.true))

pub returns-else-before-records : goal.returns-else-before-records
returns-else-before-records c =
    rw (← c.self.view_is, c.in-InFile.is)
    (sym (no_place_in_file c.in-InFile.records c.args.before c.if-before-records.false))
