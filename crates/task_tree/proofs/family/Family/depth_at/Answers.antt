use Rattle.std.proofs.Common.{◌∙◌, ap, sym}
use Rattle.std.specs.Option.{option_map_or}
use Rattle.task_tree.specs.declared.roots.Standing.{Standing}
use Rattle.task_tree.proofs.LineageLemmas.{depth_read}
use Rattle.task_tree.proofs.family.Family.depth_at.Goals as goal

pub returns-in-Some : goal.returns-in-Some
returns-in-Some c =
    ap (λ o. option_map_or (λ (s : Standing). s.depth) o 0) (sym c.in-Some.is)
    ∙ depth_read c.args.self.now c.args.index c.standing_at.result c.standing_at.ensures

pub returns-in-None : goal.returns-in-None
returns-in-None c =
    ap (λ o. option_map_or (λ (s : Standing). s.depth) o 0) (sym c.in-None.is)
    ∙ depth_read c.args.self.now c.args.index c.standing_at.result c.standing_at.ensures
