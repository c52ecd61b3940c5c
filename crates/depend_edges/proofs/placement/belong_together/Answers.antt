use Rattle.depend_edges.proofs.PlacementLemmas.{together_is}
use Rattle.depend_edges.proofs.placement.belong_together.Goals as goal

pub returns : goal.returns
returns c =
    together_is c.args.run.now c.args.create c.args.list c.in-Some.task c.in-Some-dependences.listed _
    c.task_count-tasks.ensures.is_run c.in-Some.ensures c.in-Some-dependences.ensures
