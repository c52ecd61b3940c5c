use Rattle.task_tree.proofs.OwnOrderLemmas.{own_permuted, own_length, arranged_length, own_place_iff, own_get}
use Rattle.task_tree.proofs.OwnOrderLemmas.{arranged_get, own_place_of, own_order}
use Rattle.task_tree.proofs.laws.own_order_is_by_turn.Goals as goal

pub returns-clause-permuted : goal.returns-clause-permuted
returns-clause-permuted c = own_permuted

pub returns-clause-as_long : goal.returns-clause-as_long
returns-clause-as_long c = λ records. (own_length records, arranged_length records)

pub returns-clause-within : goal.returns-clause-within
returns-clause-within c = own_place_iff

pub returns-clause-stands : goal.returns-clause-stands
returns-clause-stands c = λ records i within. (own_get records i within, arranged_get records i within)

pub returns-clause-once : goal.returns-clause-once
returns-clause-once c = own_place_of

pub returns-clause-by_turn : goal.returns-clause-by_turn
returns-clause-by_turn c = own_order
