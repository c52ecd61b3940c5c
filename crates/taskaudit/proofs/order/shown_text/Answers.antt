use Rattle.std.proofs.Common.{sym}
use Rattle.taskaudit.proofs.OrderLemmas.{shown_within}
use Rattle.taskaudit.proofs.order.shown_text.Goals as goal

pub order_text-requires : goal.order_text-requires
order_text-requires c =
    shown_within c.args.trace.now.records c.args.verdict.now c.args.counter.now c.in-Some.order.now
    c.requires.verdict c.requires.counter (sym c.in-Some.ensures)
