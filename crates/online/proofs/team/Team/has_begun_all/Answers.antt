use Rattle.std.proofs.Common.{◌-◌, sym, arith}
use Rattle.std.proofs.lemmas.Bool.{leb-true}
use Rattle.online.proofs.PhaseSteps.{begun_all}
use Rattle.online.proofs.team.Team.has_begun_all.Goals as goal

pub returns-in-Some : goal.returns-in-Some
returns-in-Some c = λ all.
    begun_all c.args.self.now (c.args.self.now.over - 1) c.in-Some.phase.now (omega arith)
    (sym c.in-Some.ensures.value) (leb-true c.args.self.now.joined c.in-Some.phase.now.begun all)
