use Rattle.checker.proofs.UpgradeableLemmas.{moves_nowhere}
use Rattle.checker.proofs.laws.a_well_formed_first_version_can_be_upgraded.Goals as goal

pub returns : goal.returns
returns c = moves_nowhere
