use Rattle.std.proofs.Common.{ℕ, ◌<◌}
use Rattle.wait_coverage.specs.declared.waits.Wait.{Wait}
use Rattle.wait_coverage.specs.Waits.{AreAwaited, IsAwaitedUnfinishedAt}
use Rattle.wait_coverage.proofs.waits.first_late.Given as goal

-- no task created so far is late
abbrev pub invariant-loop-place : goal.invariant-loop-place
invariant-loop-place l =
    (wait : Wait) → AreAwaited l.done.teams.run.records l.done.teams.run.family.tasks wait l.marks
    → (k task : ℕ) → k < l.place → IsAwaitedUnfinishedAt l.done wait l.seen k task → ⊥
