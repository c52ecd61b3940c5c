use Rattle.std.proofs.Common.{refl}
use Rattle.std.specs.Prelude.{nat_eq}
use Rattle.std.specs.HashMap.{get}
use Rattle.online.specs.Kept.{kept_by, teams_by}
use Rattle.online.proofs.TableLemmas.{ok_weaker}
use Rattle.online.proofs.WaitTeamLemmas.{barrier_then, barrier_never, barrier_teams_never}
use Rattle.online.proofs.WaitTeamLemmas.{barrier_teams_case}
use Rattle.online.proofs.waits.Waits.begin_barrier.Goals as goal

pub returns-in_default-clause-tasks : goal.returns-in_default-clause-tasks
returns-in_default-clause-tasks c = barrier_never (kept_by c.args.self.now) c.args.task

pub returns-in_default-clause-teams : goal.returns-in_default-clause-teams
returns-in_default-clause-teams c =
    barrier_teams_never (kept_by c.args.self.now) (teams_by c.args.self.now) c.args.task
    (c.in_default.ensures.none refl)

pub returns-clause-tasks : goal.returns-clause-tasks
returns-clause-tasks c =
    ok_weaker c.begin_in.result _ _
    (λ begins.
    barrier_then (kept_by c.args.self.now) (get nat_eq c.begin_barrier.new.table) c.args.task
    c.begin_barrier.ensures)
    c.begin_in.ensures

pub returns-clause-teams : goal.returns-clause-teams
returns-clause-teams c =
    ok_weaker c.begin_in.result _ _
    (λ begins.
    barrier_teams_case (kept_by c.args.self.now) (get nat_eq c.begin_barrier.new.table)
    (teams_by c.args.self.now) (get nat_eq c.begin_in.new.teams) c.args.task c.in-Some.place
    c.in-Some.ensures.some c.begin_barrier.ensures begins (c.in-Some.ensures.found refl))
    c.begin_in.ensures
