use Rattle.std.proofs.Common.{length, ◌-◌}
use Rattle.wait_coverage.specs.Done.{AreRaised}
use Rattle.wait_coverage.proofs.done.find_families.Given as goal

-- the tasks at the last places have handed theirs up
abbrev pub invariant-loop-passed : goal.invariant-loop-passed
invariant-loop-passed l = AreRaised l.run.family l.order l.own (length l.order - l.passed) l.families.items
