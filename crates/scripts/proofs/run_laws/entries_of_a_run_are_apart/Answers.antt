use Rattle.scripts.proofs.TilingLemmas.{entries_apart}
use Rattle.scripts.proofs.run_laws.entries_of_a_run_are_apart.Goals as goal

pub returns : goal.returns
returns c = entries_apart
