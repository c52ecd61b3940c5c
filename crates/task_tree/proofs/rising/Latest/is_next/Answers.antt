use Rattle.task_tree.proofs.RisingPassLemmas.{next_some}
use Rattle.task_tree.proofs.rising.Latest.is_next.Goals as goal

pub returns-then-turn-gt0 : goal.returns-then-turn-gt0
returns-then-turn-gt0 c = next_some c.args.self c.in-Some.last c.args.turn c.in-Some.is c.if-turn-gt0.true
