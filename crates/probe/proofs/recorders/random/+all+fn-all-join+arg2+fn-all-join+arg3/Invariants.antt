use Rattle.std.proofs.Common.{◌-◌}
use Rattle.probe.proofs.recorders.random.«+all+fn-all-join+arg2+fn-all-join+arg3».Given as goal

abbrev pub decreases-all : goal.decreases-all
decreases-all g l = l.plan.end - l.plan.first

abbrev pub decreases-join+arg2 : goal.decreases-join+arg2
decreases-join+arg2 g l = l.first.end - l.first.first

abbrev pub decreases-join+arg3 : goal.decreases-join+arg3
decreases-join+arg3 g l = l.rest.end - l.rest.first
