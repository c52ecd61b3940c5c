use Rattle.wait_coverage.specs.declared.waits.Wait.{Wait}
use Rattle.wait_coverage.specs.Waits.{AreAwaited}
use Rattle.wait_coverage.proofs.LateLemmas.{AreLateBelow}
use Rattle.wait_coverage.proofs.waits.all_late.Given as goal

-- of the tasks so far these are late
abbrev pub invariant-loop-index : goal.invariant-loop-index
invariant-loop-index l =
    (wait : Wait) → AreAwaited l.done.teams.run.records l.done.teams.run.family.tasks wait l.marks
    → AreLateBelow l.done wait l.seen l.index l.late.items
