use Rattle.std.proofs.Common.{◌≤◌}
use Rattle.checker.specs.Readings.{by_task}
use Rattle.checker.specs.Findings.{AreViolationsBelow}
use Rattle.checker.proofs.violations.violations_in.Given as goal

-- the violations among the first records
abbrev pub invariant-loop-at : goal.invariant-loop-at
invariant-loop-at l =
    (l.found.left_out ≤ l.at) × AreViolationsBelow (by_task l.clear.run.records) l.most l.at l.found
