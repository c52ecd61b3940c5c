use Rattle.std.specs.Prelude.{nat_eq}
use Rattle.std.specs.HashMap.{get}
use Rattle.online.specs.Kept.{kept_by, teams_by}
use Rattle.online.proofs.TableLemmas.{ok_weaker}
use Rattle.online.proofs.WaitLemmas.{begin_then}
use Rattle.online.proofs.WaitTeamLemmas.{begin_teams_then}
use Rattle.online.proofs.waits.Waits.begin_taskgroup.Goals as goal

pub returns-clause-tasks : goal.returns-clause-tasks
returns-clause-tasks c =
    ok_weaker c.begin_group.result _ _
    (begin_then (kept_by c.args.self.now) (get nat_eq c.begin_group.new.table) c.args.task)
    c.begin_group.ensures.begun

pub returns-clause-teams : goal.returns-clause-teams
returns-clause-teams c =
    ok_weaker c.begin_group.result _ _
    (begin_teams_then (kept_by c.args.self.now) (get nat_eq c.begin_group.new.table)
    (teams_by c.args.self.now) c.args.task)
    c.begin_group.ensures.begun
