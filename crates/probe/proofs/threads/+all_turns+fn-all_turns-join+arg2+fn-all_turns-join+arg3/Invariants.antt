use Rattle.std.proofs.Common.{◌+◌, ◌*◌}
use Rattle.probe.proofs.threads.+all_turns+fn-all_turns-join+arg2+fn-all_turns-join+arg3.Given as goal

abbrev pub decreases-all_turns : goal.decreases-all_turns
decreases-all_turns g l = l.plan.threads * 2

abbrev pub decreases-join+arg2 : goal.decreases-join+arg2
decreases-join+arg2 g l = l.half * 2 + 1

abbrev pub decreases-join+arg3 : goal.decreases-join+arg3
decreases-join+arg3 g l = l.rest * 2 + 1
