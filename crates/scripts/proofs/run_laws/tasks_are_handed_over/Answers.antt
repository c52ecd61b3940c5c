use Rattle.scripts.proofs.HandOverLemmas.{handed_over}
use Rattle.scripts.proofs.run_laws.tasks_are_handed_over.Goals as goal

pub returns : goal.returns
returns c = handed_over
