use Rattle.checker.proofs.KeptOrderLemmas.{own_kept, start_kept, begin_kept}
use Rattle.checker.proofs.laws.each_order_keeps_every_tasks_own_order.Goals as goal

pub returns-clause-own_order : goal.returns-clause-own_order
returns-clause-own_order c = λ version rs order trace none linear task i k one other less.
    linear.rising i k (own_kept version rs task i k trace none one other less)

pub returns-clause-starts : goal.returns-clause-starts
returns-clause-starts c = λ version rs order trace none linear task i k start next apart.
    linear.rising i k (start_kept version rs task i k trace none start next apart)

pub returns-clause-begins : goal.returns-clause-begins
returns-clause-begins c = λ rs order none linear task i k begin next.
    linear.rising i k (begin_kept rs task i k none begin next)
