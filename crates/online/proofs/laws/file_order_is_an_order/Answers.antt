use Rattle.online.proofs.OrderLemmas.{order_linear, order_greedy, linear_order}
use Rattle.online.proofs.laws.file_order_is_an_order.Goals as goal

pub returns-clause-order : goal.returns-clause-order
returns-clause-order c = order_linear

pub returns-clause-greedy : goal.returns-clause-greedy
returns-clause-greedy c = order_greedy

pub returns-clause-in_order : goal.returns-clause-in_order
returns-clause-in_order c = linear_order
