use Rattle.taskaudit.proofs.OrderingLemmas.{AreMoved}
use Rattle.taskaudit.proofs.ordering.records_at.Given as goal

abbrev pub invariant-loop-before : goal.invariant-loop-before
invariant-loop-before l = AreMoved l.before l.order l.fn.records.items l.records.items l.ordered.items
