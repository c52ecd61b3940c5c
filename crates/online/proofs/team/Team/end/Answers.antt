use Rattle.std.proofs.Common.{refl}
use Rattle.online.proofs.PhaseSteps.{ended}
use Rattle.online.proofs.team.Team.end.Goals as goal

pub returns : goal.returns
returns c = λ yes.
    ended c.args.number c.args.length c.args.self.now c.end_phases.new.self c.count_end.new.self
    c.forget.new.self (c.in_ok-end_phases.ensures c.if-not-branch.false) (c.if-not-is_settled.ensures refl)
    c.count_end.ensures c.forget.ensures
