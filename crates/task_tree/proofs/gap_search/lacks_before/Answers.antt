use Rattle.task_tree.proofs.GapLemmas.{lacks_iff}
use Rattle.task_tree.proofs.gap_search.lacks_before.Goals as goal

pub returns-then-start-gt0 : goal.returns-then-start-gt0
returns-then-start-gt0 c records are =
    lacks_iff records c.args.start c.has_begun.result c.if-start-gt0.true (c.has_begun.ensures records are)
