use Rattle.std.proofs.Common.{◌≡◌, rules}
use Rattle.std.specs.Prelude.{option_map}
use Rattle.task_tree.specs.declared.links.Link.{Link}
use Rattle.task_tree.proofs.FamilyLemmas.{number_is}
use Rattle.task_tree.proofs.family.Family.number.Goals as goal

pub returns : goal.returns
returns c = λ records are.
    let is : c.map.result ≡ option_map (λ (link : Link). link.number) c.link_of.result = search rules in
    rw is (number_is records c.args.self.now c.args.task c.link_of.result are c.link_of.ensures)
