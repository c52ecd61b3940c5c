use Rattle.task_states.proofs.TargetLemmas.{target_made}
use Rattle.task_states.proofs.targets.is_target_there.Goals as goal

pub returns : goal.returns
returns c =
    target_made c.args.run.now.records c.args.at c.makes_target.result c.requires.flat c.makes_target.ensures
