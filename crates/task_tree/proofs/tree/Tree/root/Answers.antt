use Rattle.task_tree.proofs.TreeLemmas.{root_found}
use Rattle.task_tree.proofs.tree.Tree.root.Goals as goal

pub returns : goal.returns
returns c =
    λ records are.
    root_found records c.args.self.now c.args.task c.root.result are
    (rw c.family.ensures at c.root.ensures)
