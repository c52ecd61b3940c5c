use Rattle.std.proofs.Common.{sym}
use Rattle.std.proofs.lemmas.List.FromFn.{length-range_with_len}
use Rattle.task_tree.proofs.own_order.OwnOrder.len.Goals as goal

pub returns-in-InFile : goal.returns-in-InFile
returns-in-InFile c =
    rw (← c.self.view_is, c.in-InFile.is) (sym (length-range_with_len 0 c.in-InFile.records))
