use Rattle.std.proofs.Common.{arith}
use Rattle.online.proofs.PushLemmas.{finished_stays}
use Rattle.online.proofs.ListLaw.{predecessor_before, below_complete, own_complete}
use Rattle.online.proofs.item_laws.ready_is_complete.Goals as goal

pub returns-clause-below : goal.returns-clause-below
returns-clause-below c = below_complete

pub returns-clause-own : goal.returns-clause-own
returns-clause-own c = own_complete

pub returns-clause-before : goal.returns-clause-before
returns-clause-before c = predecessor_before

pub returns-clause-stays : goal.returns-clause-stays
returns-clause-stays c = λ rs r task limit. finished_stays rs r task limit limit (omega arith)
