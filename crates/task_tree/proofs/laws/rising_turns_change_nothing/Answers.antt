use Rattle.task_tree.proofs.SayingLemmas.{shows_has, required_owed}
use Rattle.task_tree.proofs.laws.rising_turns_change_nothing.Goals as goal

pub returns-clause-causes : goal.returns-clause-causes
returns-clause-causes c = shows_has

pub returns-clause-required : goal.returns-clause-required
returns-clause-required c = required_owed
