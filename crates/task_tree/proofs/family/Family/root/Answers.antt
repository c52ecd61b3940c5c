use Rattle.std.proofs.Common.{◌≡◌, rules}
use Rattle.std.specs.Prelude.{option_map}
use Rattle.task_tree.specs.declared.roots.Standing.{Standing}
use Rattle.task_tree.proofs.FamilyLemmas.{root_is}
use Rattle.task_tree.proofs.family.Family.root.Goals as goal

pub returns : goal.returns
returns c = λ records are.
    let is : c.map.result ≡ option_map (λ (standing : Standing). standing.root) c.standing_of.result =
    search rules in
    rw is (root_is records c.args.self.now c.args.task c.standing_of.result are c.standing_of.ensures)
