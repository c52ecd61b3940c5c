use Rattle.callbacks.proofs.PairLaw.{as_many_pair}
use Rattle.callbacks.proofs.laws.as_many_records_pair_off.Goals as goal

pub returns : goal.returns
returns c = as_many_pair
