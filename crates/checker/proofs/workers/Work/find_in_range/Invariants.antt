use Rattle.std.proofs.Common.{ℕ, ◌<◌, ◌≤◌}
use Rattle.checker.specs.Readings.{by_task}
use Rattle.checker.specs.Verdicts.{AreComplete}
use Rattle.checker.specs.Deciding.{begin_of}
use Rattle.checker.proofs.workers.Work.find_in_range.Given as goal

-- at the records of the range so far all is complete
abbrev pub invariant-loop-at : goal.invariant-loop-at
invariant-loop-at g l = (i : ℕ) → i < l.at → begin_of l.self l.worker ≤ i
    → AreComplete (by_task l.self.records) i
