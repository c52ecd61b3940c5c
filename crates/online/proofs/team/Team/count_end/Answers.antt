use Rattle.std.proofs.Common.{sym, subst}
use Rattle.online.specs.Teams.{KeepsPhases}
use Rattle.online.proofs.PhaseSteps.{keeps_all}
use Rattle.online.proofs.team.Team.count_end.Goals as goal

pub returns-in_default : goal.returns-in_default
returns-in_default c =
    let team = c.args.self.now in
    subst
    (λ m.
    KeepsPhases team
    (record {
      actual = team.actual;
      joined = team.joined;
      ended = team.ended;
      over = team.over;
      greatest = team.greatest;
      phases = m;
    }))
    (sym c.get_mut.follows.holds-at-none) (keeps_all team)
