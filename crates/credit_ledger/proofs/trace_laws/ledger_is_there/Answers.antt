use Rattle.credit_ledger.proofs.ThereLemmas.{ledger_there}
use Rattle.credit_ledger.proofs.trace_laws.ledger_is_there.Goals as goal

pub returns : goal.returns
returns c = ledger_there
