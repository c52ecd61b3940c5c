use Rattle.lines.proofs.InFrontLemmas.{AreMembersInFront-both}
use Rattle.lines.proofs.others.past_first_others.Goals as goal

pub others-preserved : goal.others-preserved
others-preserved c = AreMembersInFront-both _ _ _ _ _ c.others.invariant c.in-Some.ensures
