use Rattle.std.proofs.Common.{◌≡◌, ◌+◌, ◌-◌, ◌∷◌, Some, None, refl, ap, sym, ◌∙◌, subst, arith}
use Rattle.credit_ledger.specs.Paths.{keeps, prefix, path_of}
use Rattle.credit_ledger.specs.Trees.{progress_at, child_since, since_all, IsHeldFrom}
use Rattle.credit_ledger.proofs.PurseLemmas.{run-small, run_at, since_at, IsHeldFrom-seen, IsHeldFrom-no_run}
use Rattle.credit_ledger.proofs.PurseLemmas.{IsHeldFrom-run, IsHeldFrom-node, IsHeldFrom-children}
use Rattle.credit_ledger.proofs.PurseLemmas.{child_since-at}
use Rattle.credit_ledger.proofs.PurseLemmas.{since_all-same}
use Rattle.credit_ledger.proofs.purse.since_at.Goals as goal

pub returns-in_default : goal.returns-in_default
returns-in_default c =
    IsHeldFrom-seen c.args.shares.now c.args.shares.now c.args.share.now None refl
    (IsHeldFrom-no_run c.args.shares.now (progress_at c.args.tree.now) c.requires.known
    (path_of c.args.share.now).0 (path_of c.args.share.now).1 c.requires.above
    (run_at c.args.tree.now (path_of c.args.share.now).0 c.args.index c.node.result None c.requires.place
    c.node.ensures c.in_default.is))

pub overflow_add-result : goal.overflow_add-result
overflow_add-result c =
    let run =
    run_at c.args.tree.now (path_of c.args.share.now).0 c.args.index c.node.result (Some c.in-Some.run')
    c.requires.place c.node.ensures c.in-Some.is in
    omega (
      arith,
      run-small c.args.shares.now (progress_at c.args.tree.now) c.requires.known
          (path_of c.args.share.now).0 c.in-Some.run' run,
    )

pub overflow_add-run : goal.overflow_add-run
overflow_add-run c =
    let run =
    run_at c.args.tree.now (path_of c.args.share.now).0 c.args.index c.node.result (Some c.in-Some.run')
    c.requires.place c.node.ensures c.in-Some.is in
    omega (
      arith,
      run-small c.args.shares.now (progress_at c.args.tree.now) c.requires.known
          (path_of c.args.share.now).0 c.in-Some.run' run,
    )

pub returns-then-run-last : goal.returns-then-run-last
returns-then-run-last c =
    let run =
    run_at c.args.tree.now (path_of c.args.share.now).0 c.args.index c.node.result (Some c.in-Some.run')
    c.requires.place c.node.ensures c.in-Some.is in
    IsHeldFrom-seen c.args.shares.now c.args.shares.now c.args.share.now (Some (c.in-Some.run'.time + 1)) refl
    (IsHeldFrom-run c.args.shares.now (progress_at c.args.tree.now) c.requires.known
    (path_of c.args.share.now).0 (path_of c.args.share.now).1 c.in-Some.run' run
    (omega (arith, c.last-last.ensures, c.if-run-last.true)))

pub returns-then-last-eq0 : goal.returns-then-last-eq0
returns-then-last-eq0 c =
    let none : (path_of c.args.share.now).1 ≡ 0 = sym c.last-last.ensures ∙ c.if-last-eq0.true in
    IsHeldFrom-seen c.args.shares.now c.args.shares.now c.args.share.now c.node.result.progress.since refl
    (subst
    (λ m.
    IsHeldFrom c.args.shares.now c.node.result.progress.since
    (keeps (prefix (path_of c.args.share.now).0) m))
    (sym none)
    (subst (λ o. IsHeldFrom c.args.shares.now o (keeps (prefix (path_of c.args.share.now).0) 0))
    (since_at c.args.tree.now (path_of c.args.share.now).0 c.args.index c.node.result c.requires.place
    c.node.ensures)
    (IsHeldFrom-node c.args.shares.now (progress_at c.args.tree.now) c.requires.known
    (path_of c.args.share.now).0 c.requires.above)))

pub returns-else-last-eq0 : goal.returns-else-last-eq0
returns-else-last-eq0 c =
    let run =
    run_at c.args.tree.now (path_of c.args.share.now).0 c.args.index c.node.result (Some c.in-Some.run')
    c.requires.place c.node.ensures c.in-Some.is in
    let same : since_all (λ n. (progress_at c.args.tree.now (n ∷ (path_of c.args.share.now).0)).since)
    (c.in-Some.run'.time + 1) (path_of c.args.share.now).1
    (c.in-Some.run'.keeps - (path_of c.args.share.now).1)
    ≡ c.since_all.result =
    sym (since_all-same (child_since c.args.tree.now c.args.index)
    (λ n. (progress_at c.args.tree.now (n ∷ (path_of c.args.share.now).0)).since)
    (child_since-at c.args.tree.now (path_of c.args.share.now).0 c.args.index c.requires.place)
    (c.in-Some.run'.time + 1) (path_of c.args.share.now).1
    (c.in-Some.run'.keeps - (path_of c.args.share.now).1))
    ∙ ap
    (λ m.
    since_all (child_since c.args.tree.now c.args.index) (c.in-Some.run'.time + 1) m
    (c.in-Some.run'.keeps - m))
    (sym c.last-last.ensures)
    ∙ sym c.since_all.ensures in
    IsHeldFrom-seen c.args.shares.now c.args.shares.now c.args.share.now c.since_all.result refl
    (subst
    (λ o.
    IsHeldFrom c.args.shares.now o
    (keeps (prefix (path_of c.args.share.now).0) (path_of c.args.share.now).1))
    same
    (IsHeldFrom-children c.args.shares.now (progress_at c.args.tree.now) c.requires.known
    (path_of c.args.share.now).0 (path_of c.args.share.now).1 c.in-Some.run' c.requires.above run
    (omega (arith, c.last-last.ensures, c.if-run-last.false))))
