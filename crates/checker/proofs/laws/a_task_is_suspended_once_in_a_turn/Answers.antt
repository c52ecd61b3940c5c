use Rattle.checker.proofs.OngoingLemmas.{suspended_in_versions}
use Rattle.checker.proofs.laws.a_task_is_suspended_once_in_a_turn.Goals as goal

pub returns : goal.returns
returns c = suspended_in_versions
