use Rattle.online.proofs.SettledLemmas.{ends_last_from_each, required_complete, settled_complete}
use Rattle.online.proofs.laws.what_is_complete_at_each_record_is_complete.Goals as goal

pub returns-clause-ends_last : goal.returns-clause-ends_last
returns-clause-ends_last c = ends_last_from_each

pub returns-clause-required : goal.returns-clause-required
returns-clause-required c = required_complete

pub returns-clause-settled : goal.returns-clause-settled
returns-clause-settled c = settled_complete
