use Rattle.credit_ledger.proofs.ShareLemmas.{all-whole}
use Rattle.credit_ledger.proofs.laws.the_first_share_is_all.Goals as goal

pub returns : goal.returns
returns c = all-whole
