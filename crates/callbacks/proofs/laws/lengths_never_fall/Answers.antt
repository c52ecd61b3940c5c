use Rattle.callbacks.proofs.KnownLaw.{none_back}
use Rattle.callbacks.proofs.laws.lengths_never_fall.Goals as goal

pub returns : goal.returns
returns c = none_back
