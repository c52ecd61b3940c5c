use Rattle.std.proofs.Common.{◌≡◌, ◌++◌, take}
use Rattle.taskaudit.specs.Orders.{order_lines}
use Rattle.taskaudit.proofs.order.put_lines.Given as goal

-- the lines of the places so far stand behind what was there
abbrev pub invariant-loop-before : goal.invariant-loop-before
invariant-loop-before l = l.text.items ≡ l.fn.text.items ++ order_lines l.trace.records
    (take l.before l.order)
