use Rattle.checker.proofs.ReadingLemmas.{task_required, file_required}
use Rattle.checker.proofs.laws.required_is_owed_by_waits_and_dependences.Goals as goal

pub returns-clause-by_task : goal.returns-clause-by_task
returns-clause-by_task c = task_required

pub returns-clause-by_file : goal.returns-clause-by_file
returns-clause-by_file c = file_required
