use Rattle.std.proofs.Common.{◌≡◌, sym, ◌∙◌, ap}
use Rattle.std.proofs.lemmas.Bool.{eqb-true, eq-eqb}
use Rattle.std.specs.Prelude.{nat_eq, Some, true}
use Rattle.credit_ledger.specs.declared.tree.Run.{Run}
use Rattle.credit_ledger.specs.declared.tree.Progress.{Progress}
use Rattle.credit_ledger.specs.Trees.{IsFull, full}
use Rattle.credit_ledger.proofs.KnownLemmas.{same_some}
use Rattle.credit_ledger.proofs.tree.Progress.is_full.Goals as goal

test_of : (progress : Progress) (run : Run) → progress.run ≡ Some run → IsFull progress
    → nat_eq progress.held_children run.keeps ≡ true
test_of progress run e (full other f count) =
    eq-eqb progress.held_children run.keeps
    (count ∙ ap (λ (r : Run). r.keeps) (same_some other run (sym f ∙ e)))

pub returns-in-Some : goal.returns-in-Some
returns-in-Some c = (
  (λ yes. full c.in-Some.run' c.in-Some.is (eqb-true _ _ yes)),
  test_of c.args.self.now c.in-Some.run' c.in-Some.is,
)
