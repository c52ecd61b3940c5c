use Rattle.callbacks.proofs.NestedLaw.{none_nested}
use Rattle.callbacks.proofs.laws.no_region_is_nested.Goals as goal

pub returns : goal.returns
returns c = none_nested
