use Rattle.online.proofs.LengthLemmas.{may_follow}
use Rattle.online.proofs.laws.lengths_may_be_taken.Goals as goal

pub returns : goal.returns
returns c = may_follow
