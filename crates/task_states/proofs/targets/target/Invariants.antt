use Rattle.std.proofs.Common.{ℕ, ◌<◌}
use Rattle.ompt_events.specs.Causes.{MakesTarget}
use Rattle.task_states.proofs.targets.target.Given as goal

-- none of the records so far makes a target task
abbrev pub invariant-loop-at : goal.invariant-loop-at
invariant-loop-at l = (k : ℕ) → k < l.at → MakesTarget l.run.records k → ⊥
