use Rattle.std.proofs.Common.{subst, sym}
use Rattle.credit_ledger.specs.Trees.{progress_at, IsTreeKnown}
use Rattle.credit_ledger.proofs.PurseLemmas.{IsTreeKnown-empty}
use Rattle.credit_ledger.proofs.purse.Purse.new.Goals as goal

pub invariant_of-result : goal.invariant_of-result
invariant_of-result c = (
  c.new-2.ensures.linked,
  subst (λ shares. IsTreeKnown shares (progress_at c.new-2.result)) (sym c.new.ensures.items)
      (IsTreeKnown-empty (progress_at c.new-2.result) c.new-2.ensures.empty),
)
