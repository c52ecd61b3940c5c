use Rattle.std.proofs.Common.{refl}
use Rattle.taskaudit.proofs.watching.Watching.find_predecessor.Goals as goal

pub returns : goal.returns
returns c rs refused = record { thread = refl; seq = refl; task = c.in_ok-found.ensures.named rs refused }
