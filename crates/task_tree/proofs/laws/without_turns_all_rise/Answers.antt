use Rattle.task_tree.proofs.RisingLemmas.{untold_rise}
use Rattle.task_tree.proofs.laws.without_turns_all_rise.Goals as goal

pub returns : goal.returns
returns c = untold_rise
