use Rattle.std.proofs.Common.{◌+◌, Some, None, ap, sym, ◌∙◌, arith}
use Rattle.credit_ledger.specs.declared.tree.Progress.{Progress}
use Rattle.credit_ledger.specs.Paths.{path_of}
use Rattle.credit_ledger.specs.Trees.{child, place, progress_at, time_above}
use Rattle.credit_ledger.proofs.TreeLemmas.{progress_at-none}
use Rattle.credit_ledger.proofs.PurseLemmas.{time_above-small, IsHeldFrom-seen, IsHeldFrom-above}
use Rattle.credit_ledger.proofs.PurseLemmas.{IsHeldFrom-no_run}
use Rattle.credit_ledger.proofs.purse.Purse.held_since.Goals as goal

pub overflow_add-result : goal.overflow_add-result
overflow_add-result c =
    let small =
    time_above-small c.self.inside.shares.items (progress_at c.self.inside.tree) c.self.invariant.1
    (path_of c.args.share.now).0 c.in-Above.time
    (ap (time_above (progress_at c.self.inside.tree)) (sym c.runs.ensures.path) ∙ c.in-Above.ensures) in
    omega (arith, small)

pub returns-in-Above : goal.returns-in-Above
returns-in-Above c =
    IsHeldFrom-seen c.self.inside.shares.items c.args.self.now c.args.share.now (Some (c.in-Above.time + 1))
    c.self.view_is
    (IsHeldFrom-above c.self.inside.shares.items (progress_at c.self.inside.tree) c.self.invariant.1
    (path_of c.args.share.now).0 (path_of c.args.share.now).1 c.in-Above.time
    (ap (time_above (progress_at c.self.inside.tree)) (sym c.runs.ensures.path) ∙ c.in-Above.ensures))

pub returns-in-Missing : goal.returns-in-Missing
returns-in-Missing c =
    IsHeldFrom-seen c.self.inside.shares.items c.args.self.now c.args.share.now None c.self.view_is
    (IsHeldFrom-no_run c.self.inside.shares.items (progress_at c.self.inside.tree) c.self.invariant.1
    (path_of c.args.share.now).0 (path_of c.args.share.now).1
    (ap (time_above (progress_at c.self.inside.tree)) (sym c.runs.ensures.path) ∙ c.in-Missing.ensures.0)
    (ap (λ (x : Progress). x.run) (progress_at-none c.self.inside.tree (path_of c.args.share.now).0
    (ap (place (child c.self.inside.tree)) (sym c.runs.ensures.path) ∙ c.in-Missing.ensures.1))))
