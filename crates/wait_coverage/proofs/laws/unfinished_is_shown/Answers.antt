use Rattle.wait_coverage.proofs.ShownLemmas.{unfinished_shown}
use Rattle.wait_coverage.proofs.laws.unfinished_is_shown.Goals as goal

pub returns : goal.returns
returns c = unfinished_shown
