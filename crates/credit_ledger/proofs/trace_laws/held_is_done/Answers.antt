use Rattle.credit_ledger.proofs.CreditLaw.{held_in_pool, held_in_tree}
use Rattle.credit_ledger.proofs.trace_laws.held_is_done.Goals as goal

pub returns-clause-pool : goal.returns-clause-pool
returns-clause-pool c = held_in_pool

pub returns-clause-tree : goal.returns-clause-tree
returns-clause-tree c = held_in_tree
