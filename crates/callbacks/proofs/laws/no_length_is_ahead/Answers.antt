use Rattle.callbacks.proofs.PairLaw.{none_ahead}
use Rattle.callbacks.proofs.laws.no_length_is_ahead.Goals as goal

pub returns : goal.returns
returns c = none_ahead
