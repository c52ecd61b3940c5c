use Rattle.credit_ledger.proofs.ShareLemmas.{all-permuted}
use Rattle.credit_ledger.proofs.laws.shares_in_any_order_are_all.Goals as goal

pub returns : goal.returns
returns c = all-permuted
