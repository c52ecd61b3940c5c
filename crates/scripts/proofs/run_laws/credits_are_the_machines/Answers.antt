use Rattle.scripts.proofs.CreditLemmas.{credits_held}
use Rattle.scripts.proofs.run_laws.credits_are_the_machines.Goals as goal

pub returns : goal.returns
returns c = credits_held
