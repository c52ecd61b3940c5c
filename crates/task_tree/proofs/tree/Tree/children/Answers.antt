use Rattle.task_tree.proofs.TreeLemmas.{children_found}
use Rattle.task_tree.proofs.tree.Tree.children.Goals as goal

pub returns : goal.returns
returns c =
    λ records are.
    children_found records c.args.self.now c.args.task c.children.result.now are
    (rw c.family.ensures at c.children.ensures)
