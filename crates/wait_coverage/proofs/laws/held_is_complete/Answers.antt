use Rattle.wait_coverage.proofs.CreditLaw.{held_is_complete}
use Rattle.wait_coverage.proofs.laws.held_is_complete.Goals as goal

pub returns : goal.returns
returns c = held_is_complete
