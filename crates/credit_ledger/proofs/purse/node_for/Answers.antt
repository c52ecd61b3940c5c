use Rattle.credit_ledger.specs.Trees.{progress_at}
use Rattle.credit_ledger.proofs.PurseLemmas.{IsTreeKnown-same}
use Rattle.credit_ledger.proofs.purse.node_for.Goals as goal

pub returns-clause-known : goal.returns-clause-known
returns-clause-known c =
    IsTreeKnown-same c.args.shares.now (progress_at c.args.tree.now) (progress_at c.make.new.self)
    c.make.ensures.grown.same c.requires.known
