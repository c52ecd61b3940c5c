use Rattle.task_tree.proofs.TreeLemmas.{parent_found}
use Rattle.task_tree.proofs.tree.Tree.parent.Goals as goal

pub returns : goal.returns
returns c =
    λ records are.
    parent_found records c.args.self.now c.args.task c.parent.result are
    (rw c.family.ensures at c.parent.ensures)
