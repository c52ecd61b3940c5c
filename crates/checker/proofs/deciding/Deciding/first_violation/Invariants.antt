use Rattle.std.proofs.Common.{ℕ, ◌<◌}
use Rattle.checker.specs.Readings.{by_task}
use Rattle.checker.specs.Verdicts.{AreComplete}
use Rattle.checker.proofs.deciding.Deciding.first_violation.Given as goal

-- at the records so far all is complete
abbrev pub invariant-loop-at : goal.invariant-loop-at
invariant-loop-at l = (k : ℕ) → k < l.at → AreComplete (by_task l.self.run.records) k
