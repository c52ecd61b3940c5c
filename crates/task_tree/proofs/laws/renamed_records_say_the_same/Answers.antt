use Rattle.task_tree.proofs.RenamingLemmas.{renamed_children, renamed_path, renamed_covers}
use Rattle.task_tree.proofs.RenamingLemmas.{renamed_predecessor, renamed_order, renamed_short, renamed_share}
use Rattle.task_tree.proofs.laws.renamed_records_say_the_same.Goals as goal

pub returns-clause-children : goal.returns-clause-children
returns-clause-children c = λ rs ss to back r task. renamed_children r task

pub returns-clause-paths : goal.returns-clause-paths
returns-clause-paths c = λ rs ss to back r root task path. renamed_path r root task path

pub returns-clause-covers : goal.returns-clause-covers
returns-clause-covers c = λ rs ss to back r i task. renamed_covers r i task

pub returns-clause-predecessors : goal.returns-clause-predecessors
returns-clause-predecessors c = λ rs ss to back r task other. renamed_predecessor r task other

pub returns-clause-region_order : goal.returns-clause-region_order
returns-clause-region_order c = λ rs ss to back r i. renamed_order r i

pub returns-clause-team_short : goal.returns-clause-team_short
returns-clause-team_short c = λ rs ss to back r i. renamed_short r i

pub returns-clause-share_wrong : goal.returns-clause-share_wrong
returns-clause-share_wrong c = λ rs ss to back r i. renamed_share r i
