use Rattle.std.proofs.Common.{arith}
use Rattle.std.proofs.lemmas.Grind.{common_steps}
use Rattle.credit_ledger.proofs.RunLemmas.{begins_with-runs}
use Rattle.credit_ledger.proofs.share.Share.starts_with.Goals as goal

pub returns-then-starts_with : goal.returns-then-starts_with
returns-then-starts_with c =
    rw (← c.self.view_is, ← c.other.view_is)
    (rw begins_with-runs (let h = c.starts_with.ensures.value in grind (arith, common_steps)))

pub returns-else-starts_with : goal.returns-else-starts_with
returns-else-starts_with c =
    rw (← c.self.view_is, ← c.other.view_is)
    (rw begins_with-runs (let h = c.starts_with.ensures.value in grind (arith, common_steps)))
