use Rattle.std.proofs.Common.{◌≡◌, sym, ◌∙◌, ap, subst}
use Rattle.std.specs.Prelude.{IfOk}
use Rattle.credit_ledger.specs.Codes.{second_code}
use Rattle.credit_ledger.specs.Entries.{tree_share, parent_and_number}
use Rattle.credit_ledger.proofs.OverlapLemmas.{parent_and_number-push}
use Rattle.credit_ledger.proofs.codes.second_code.Goals as goal

pub returns-in-Some : goal.returns-in-Some
returns-in-Some c =
    subst
    (λ child.
    IfOk c.pool_code.result
    (λ share.
    share
    ≡ second_code c.args.entry.now.root child c.args.entry.now.part
    (tree_share c.args.entry.now)))
    (sym
    (ap parent_and_number (sym c.as_slice.ensures ∙ c.in-Some.ensures.cases.0)
    ∙ parent_and_number-push c.in-Some.parent.now c.in-Some.number.now))
    c.pool_code.ensures
