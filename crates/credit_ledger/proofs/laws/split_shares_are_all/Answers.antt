use Rattle.credit_ledger.proofs.ShareLemmas.{all-split}
use Rattle.credit_ledger.proofs.laws.split_shares_are_all.Goals as goal

pub returns : goal.returns
returns c = all-split
