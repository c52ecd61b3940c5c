use Rattle.callbacks.proofs.PairLaw.{none_twice}
use Rattle.callbacks.proofs.laws.no_entry_is_named_twice.Goals as goal

pub returns : goal.returns
returns c = none_twice
