use Rattle.online.proofs.PhaseSteps.{goes_next}
use Rattle.online.proofs.team.Team.end_phases.Goals as goal

pub loop-self-preserved : goal.loop-self-preserved
loop-self-preserved c =
    goes_next c.args.self.now c.loop-self.self c.end_phase.new.self c.forget.new.self c.loop-self.invariant
    (c.in_ok-end_phase.ensures c.if-not-branch.false) c.forget.ensures
