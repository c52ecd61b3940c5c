use Rattle.probe.proofs.stopwatch.threads.«+all+fn-all-join+arg2+fn-all-join+arg3».Given as goal

abbrev pub decreases-all : goal.decreases-all
decreases-all g l = l.plan.threads

abbrev pub decreases-join+arg2 : goal.decreases-join+arg2
decreases-join+arg2 g l = l.first.threads

abbrev pub decreases-join+arg3 : goal.decreases-join+arg3
decreases-join+arg3 g l = l.rest.threads
