use Rattle.checker.proofs.FileYesLemmas.{file_yes}
use Rattle.checker.proofs.EndYesLemmas.{yes_but_for_ends}
use Rattle.checker.proofs.laws.a_file_in_order_has_a_yes.Goals as goal

pub returns-clause-alike : goal.returns-clause-alike
returns-clause-alike c = file_yes

pub returns-clause-but_for_ends : goal.returns-clause-but_for_ends
returns-clause-but_for_ends c = yes_but_for_ends
