use Rattle.scripts.proofs.CalledLemmas.{calls_recorded, all_recorded}
use Rattle.scripts.proofs.run_laws.records_have_the_calls.Goals as goal

pub returns-clause-begun : goal.returns-clause-begun
returns-clause-begun c = calls_recorded

pub returns-clause-whole : goal.returns-clause-whole
returns-clause-whole c = all_recorded
