use Rattle.std.specs.Prelude.{nat_eq}
use Rattle.std.specs.HashMap.{get}
use Rattle.online.specs.Kept.{kept_by, teams_by}
use Rattle.online.proofs.TableLemmas.{ok_weaker}
use Rattle.online.proofs.WaitTeamLemmas.{initial_then, initial_teams_then}
use Rattle.online.proofs.waits.Waits.begin_initial.Goals as goal

pub returns-clause-tasks : goal.returns-clause-tasks
returns-clause-tasks c =
    ok_weaker c.put.result _ _
    (initial_then (kept_by c.args.self.now) (get nat_eq c.put.new.table) c.args.root c.of_root.result
    c.of_root.ensures.new)
    c.put.ensures.put

pub returns-clause-teams : goal.returns-clause-teams
returns-clause-teams c =
    ok_weaker c.put.result _ _
    (initial_teams_then (kept_by c.args.self.now) (get nat_eq c.put.new.table) (teams_by c.args.self.now)
    c.args.root c.of_root.result c.of_root.ensures.new c.of_root.ensures.told)
    c.put.ensures.put
