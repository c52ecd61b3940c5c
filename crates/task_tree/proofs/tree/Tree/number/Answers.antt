use Rattle.task_tree.proofs.TreeLemmas.{number_found}
use Rattle.task_tree.proofs.tree.Tree.number.Goals as goal

pub returns : goal.returns
returns c =
    λ records are.
    number_found records c.args.self.now c.args.task c.number.result are
    (rw c.family.ensures at c.number.ensures)
