use Rattle.ompt_events.proofs.CircleLemmas.{circle_from, no_order_from}
use Rattle.ompt_events.proofs.laws.no_order_is_a_circle.Goals as goal

pub returns : goal.returns
returns c = λ records i within. (circle_from records i, no_order_from records i within)
