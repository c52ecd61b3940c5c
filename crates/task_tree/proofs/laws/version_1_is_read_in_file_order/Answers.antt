use Rattle.ompt_events.proofs.TurnLemmas.{first_version_tells_none, free_of_gaps}
use Rattle.task_tree.proofs.RisingLemmas.{untold_rise}
use Rattle.task_tree.proofs.SayingLemmas.{shows_has, required_owed}
use Rattle.task_tree.proofs.laws.version_1_is_read_in_file_order.Goals as goal

pub returns-clause-causes : goal.returns-clause-causes
returns-clause-causes c =
    λ records trace. shows_has records (untold_rise records (first_version_tells_none records trace))

pub returns-clause-required : goal.returns-clause-required
returns-clause-required c =
    λ records trace. required_owed records (untold_rise records (first_version_tells_none records trace))

pub returns-clause-gapless : goal.returns-clause-gapless
returns-clause-gapless c = λ records trace. free_of_gaps records (first_version_tells_none records trace)
