use Rattle.std.proofs.Common.{arith}
use Rattle.std.proofs.lemmas.Bool.Decides.{nat_tests}
use Rattle.credit_ledger.proofs.RunLemmas.{gives_in_share}
use Rattle.credit_ledger.proofs.share.Share.is_too_deep.Goals as goal

pub returns-then-len-ge-MOST_GIVES : goal.returns-then-len-ge-MOST_GIVES
returns-then-len-ge-MOST_GIVES c =
    rw (← c.self.view_is) (rw gives_in_share (grind (arith, nat_tests)))

pub returns-else-len-ge-MOST_GIVES : goal.returns-else-len-ge-MOST_GIVES
returns-else-len-ge-MOST_GIVES c =
    rw (← c.self.view_is) (rw gives_in_share (grind (arith, nat_tests)))
