use Rattle.checker.proofs.OneVerdictLemmas.{one_by_task, one_by_file}
use Rattle.checker.proofs.laws.a_trace_has_one_verdict.Goals as goal

pub returns-clause-by_task : goal.returns-clause-by_task
returns-clause-by_task c = one_by_task

pub returns-clause-by_file : goal.returns-clause-by_file
returns-clause-by_file c = one_by_file
