use Rattle.task_tree.proofs.ForwardLemmas.{standing_more}
use Rattle.task_tree.proofs.forward.find_forward.Goals as goal

pub loop-index-preserved : goal.loop-index-preserved
loop-index-preserved c =
    rw (c.in_ok-push.ensures.items, c.some.ensures)
    (standing_more c.args.trace.now.records c.loop-index.index c.in-Some.standing c.args.tasks.now
    c.loop-index.roots.items c.loop-index.invariant c.in-Some.ensures)
