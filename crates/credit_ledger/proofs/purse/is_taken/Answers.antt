use Rattle.std.proofs.Common.{Some, None, true, false, refl, sym, ◌∙◌, ap, arith}
use Rattle.credit_ledger.specs.declared.tree.Node.{Node}
use Rattle.credit_ledger.specs.Paths.{path_of}
use Rattle.credit_ledger.specs.Trees.{child, progress_at}
use Rattle.credit_ledger.proofs.TreeLemmas.{place-child}
use Rattle.credit_ledger.proofs.PurseLemmas.{run_at, overlaps-seen, overlaps-run, overlaps-none}
use Rattle.credit_ledger.proofs.purse.is_taken.Goals as goal

pub returns-in-Some : goal.returns-in-Some
returns-in-Some c =
    overlaps-seen c.args.shares.now c.args.shares.now c.args.share.now true refl
    (overlaps-run c.args.shares.now (progress_at c.args.tree.now) c.requires.known
    (path_of c.args.share.now).0 (path_of c.args.share.now).1 c.in-Some.field-0
    (run_at c.args.tree.now (path_of c.args.share.now).0 c.args.index c.node-node.result
    (Some c.in-Some.field-0) c.requires.place c.node-node.ensures c.in-Some.is))

pub returns-then-node-last : goal.returns-then-node-last
returns-then-node-last c =
    let reach = ap (λ (x : Node). x.reach) c.node-node.ensures in
    overlaps-seen c.args.shares.now c.args.shares.now c.args.share.now false refl
    (overlaps-none c.args.shares.now c.args.tree.now c.requires.known (path_of c.args.share.now).0
    (path_of c.args.share.now).1
    c.requires.above
    (run_at c.args.tree.now (path_of c.args.share.now).0 c.args.index c.node-node.result None c.requires.place
    c.node-node.ensures c.in_default.is)
    (λ n k e.
    let less =
    c.requires.linked.reach c.args.index n k
    (sym
    (place-child (child c.args.tree.now) n (path_of c.args.share.now).0 c.args.index
    c.requires.place)
    ∙ e) in
    omega (arith, less, reach, c.last.ensures, c.if-node-last.true)))
