use Rattle.std.proofs.Common.{refl}
use Rattle.taskaudit.proofs.watching.Watching.find_waited_for.Goals as goal

pub returns : goal.returns
returns c rs refused = record {
  thread = refl;
  seq = refl;
  task = (rw c.in-Some.is at c.in_ok-task.ensures) rs refused;
}
