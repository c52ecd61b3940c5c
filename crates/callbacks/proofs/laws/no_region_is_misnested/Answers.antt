use Rattle.callbacks.proofs.NestedLaw.{none_misnested}
use Rattle.callbacks.proofs.laws.no_region_is_misnested.Goals as goal

pub returns : goal.returns
returns c = none_misnested
