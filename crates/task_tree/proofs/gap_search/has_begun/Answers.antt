use Rattle.std.proofs.Common.{◌∙◌, sym}
use Rattle.task_tree.proofs.GapLemmas.{begun_some, begun_none}
use Rattle.task_tree.proofs.gap_search.has_begun.Goals as goal

pub returns-in-Some : goal.returns-in-Some
returns-in-Some c records are =
    begun_some records c.args.begins.now c.args.task c.args.turn _ are
    (sym c.first_begin.ensures ∙ c.in-Some.is)

pub returns-in-None : goal.returns-in-None
returns-in-None c records are =
    begun_none records c.args.begins.now c.args.task c.args.turn c.begins_root.result are
    (sym c.first_begin.ensures ∙ c.in-None.is) (c.begins_root.ensures records are)
