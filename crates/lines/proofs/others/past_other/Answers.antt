use Rattle.lines.proofs.InFrontLemmas.{AreMembersInFront-other}
use Rattle.lines.proofs.others.past_other.Goals as goal

pub returns : goal.returns
returns c = AreMembersInFront-other _ _ _ c.in_ok-value.ensures c.in_ok-behind.ensures
