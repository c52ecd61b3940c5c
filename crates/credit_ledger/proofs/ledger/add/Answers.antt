use Rattle.std.proofs.Common.{◌≡◌, true, ◌∙◌, ap}
use Rattle.credit_ledger.specs.Shares.{overlaps_either}
use Rattle.credit_ledger.specs.Entries.{tree_share, parent_and_number}
use Rattle.credit_ledger.specs.Codes.{tree_code, second_code}
use Rattle.credit_ledger.proofs.LedgerLemmas.{overlaps_either-entry}
use Rattle.credit_ledger.proofs.ledger.add.Goals as goal

pub returns-clause-overlaps : goal.returns-clause-overlaps
returns-clause-overlaps c = λ some.
    let e = overlaps_either-entry c.args.entry c.args.entries.now.items some in
    let f : overlaps_either c.in-Ok.first c.in-Ok-second_code.second c.args.purse.now ≡ true =
    ap (λ x. overlaps_either x c.in-Ok-second_code.second c.args.purse.now) c.in-Ok.ensures
    ∙ ap (λ x. overlaps_either (tree_code c.args.entry.root (tree_share c.args.entry)) x c.args.purse.now)
    c.in-Ok-second_code.ensures
    ∙ ap
    (overlaps_either (tree_code c.args.entry.root (tree_share c.args.entry))
    (second_code c.args.entry.root (parent_and_number c.args.entry.path) c.args.entry.part
    (tree_share c.args.entry)))
    c.requires.shares
    ∙ e in
    c.in-Ok-enter_both.ensures.overlaps f
