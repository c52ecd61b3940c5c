use Rattle.credit_ledger.proofs.ApartLaw.{entries_apart}
use Rattle.credit_ledger.proofs.trace_laws.entries_are_apart.Goals as goal

pub returns : goal.returns
returns c = entries_apart
