use Rattle.checker.proofs.EndVerdictLemmas.{ends_verdict, ends_counter}
use Rattle.checker.proofs.laws.the_end_of_a_root_tells_nothing_of_its_team.Goals as goal

pub returns-clause-verdict : goal.returns-clause-verdict
returns-clause-verdict c = λ rs ss same verdict. ends_verdict rs ss verdict same

pub returns-clause-counter : goal.returns-clause-counter
returns-clause-counter c = λ rs ss same i task found. ends_counter rs ss i task found same
