use Rattle.credit_ledger.proofs.HoldLaw.{Hold-credits_after}
use Rattle.credit_ledger.proofs.share_laws.held_is_over.Goals as goal

pub returns : goal.returns
returns c = Hold-credits_after
