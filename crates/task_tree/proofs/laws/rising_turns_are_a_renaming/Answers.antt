use Rattle.task_tree.proofs.RisingLemmas.{own_renaming}
use Rattle.task_tree.proofs.laws.rising_turns_are_a_renaming.Goals as goal

pub returns : goal.returns
returns c = own_renaming
