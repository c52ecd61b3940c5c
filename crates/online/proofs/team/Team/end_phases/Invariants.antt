use Rattle.std.proofs.Common.{◌+◌, ◌-◌}
use Rattle.online.proofs.PhaseSteps.{GoesOn}
use Rattle.online.proofs.team.Team.end_phases.Given as goal

abbrev pub invariant-loop-self : goal.invariant-loop-self
invariant-loop-self l = GoesOn l.initial.self l.self

abbrev pub decreases-loop-self : goal.decreases-loop-self
decreases-loop-self l = l.number + 1 - l.self.over
