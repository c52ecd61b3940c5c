use Rattle.task_tree.proofs.SuspendedLemmas.{no_misfit}
use Rattle.task_tree.proofs.laws.without_not_current_none_misfits.Goals as goal

pub returns : goal.returns
returns c = λ records none i misfits. no_misfit records i none misfits
