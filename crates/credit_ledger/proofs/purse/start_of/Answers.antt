use Rattle.std.proofs.Common.{◌∷◌, [], true, false, refl, ap, sym, ◌∙◌}
use Rattle.credit_ledger.specs.declared.tree.Progress.{Progress}
use Rattle.credit_ledger.specs.Paths.{path_of}
use Rattle.credit_ledger.specs.Trees.{child, place, progress_at, time_above}
use Rattle.credit_ledger.proofs.KnownLemmas.{none_some}
use Rattle.credit_ledger.proofs.TreeLemmas.{progress_at-none, place-none}
use Rattle.credit_ledger.proofs.PurseLemmas.{overlaps-seen, overlaps-above, overlaps-none}
use Rattle.credit_ledger.proofs.purse.start_of.Goals as goal

pub returns-in-Above-clause-overlaps : goal.returns-in-Above-clause-overlaps
returns-in-Above-clause-overlaps c =
    overlaps-seen c.args.shares.now c.args.shares.now c.args.share.now true refl
    (overlaps-above c.args.shares.now (progress_at c.args.tree.now) c.requires.known
    (path_of c.args.share.now).0 (path_of c.args.share.now).1 c.in-Above.field-0
    (ap (time_above (progress_at c.args.tree.now)) (sym c.runs.ensures.path) ∙ c.in-Above.ensures))

pub returns-in-Missing-clause-overlaps : goal.returns-in-Missing-clause-overlaps
returns-in-Missing-clause-overlaps c =
    let missing = ap (place (child c.args.tree.now)) (sym c.runs.ensures.path) ∙ c.in-Missing.ensures.1 in
    overlaps-seen c.args.shares.now c.args.shares.now c.args.share.now false refl
    (overlaps-none c.args.shares.now c.args.tree.now c.requires.known (path_of c.args.share.now).0
    (path_of c.args.share.now).1
    (ap (time_above (progress_at c.args.tree.now)) (sym c.runs.ensures.path) ∙ c.in-Missing.ensures.0)
    (ap (λ (x : Progress). x.run) (progress_at-none c.args.tree.now (path_of c.args.share.now).0 missing))
    (λ n k e.
    absurd
    (none_some k
    (sym (place-none (child c.args.tree.now) (n ∷ []) (path_of c.args.share.now).0 missing)
    ∙ e))))
