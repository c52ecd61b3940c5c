use Rattle.std.proofs.Common.{◌∙◌, ap, sym}
use Rattle.std.specs.Prelude.{option_map}
use Rattle.task_tree.specs.declared.links.Link.{Link}
use Rattle.task_tree.proofs.LineageLemmas.{parent_read}
use Rattle.task_tree.proofs.family.Family.parent_at.Goals as goal

pub returns-in-Some : goal.returns-in-Some
returns-in-Some c =
    ap (option_map (λ (l : Link). l.parent)) (sym c.in-Some.is)
    ∙ parent_read c.args.self.now c.args.index c.link_at.result c.link_at.ensures

pub returns-in-None : goal.returns-in-None
returns-in-None c =
    ap (option_map (λ (l : Link). l.parent)) (sym c.in-None.is)
    ∙ parent_read c.args.self.now c.args.index c.link_at.result c.link_at.ensures
