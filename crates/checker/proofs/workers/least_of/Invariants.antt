use Rattle.checker.specs.Deciding.{IsLeastOf, HaveAllDecided}
use Rattle.checker.proofs.workers.least_of.Given as goal

-- what the workers so far found, none of whom failed
abbrev pub invariant-loop-worker : goal.invariant-loop-worker
invariant-loop-worker l = IsLeastOf l.findings l.worker l.least × HaveAllDecided l.findings l.worker
