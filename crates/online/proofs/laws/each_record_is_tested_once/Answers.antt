use Rattle.online.specs.Online.{ComesAfter, PassesAfter, IsSettledAfter}
use Rattle.online.proofs.PassLemmas.{each_none, each_more}
use Rattle.online.proofs.laws.each_record_is_tested_once.Goals as goal

pub returns-clause-none : goal.returns-clause-none
returns-clause-none c = (each_none ComesAfter, each_none PassesAfter, each_none IsSettledAfter)

pub returns-clause-comes : goal.returns-clause-comes
returns-clause-comes c = each_more ComesAfter

pub returns-clause-passes : goal.returns-clause-passes
returns-clause-passes c = each_more PassesAfter

pub returns-clause-settled : goal.returns-clause-settled
returns-clause-settled c = each_more IsSettledAfter
