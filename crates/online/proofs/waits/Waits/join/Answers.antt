use Rattle.std.specs.Prelude.{nat_eq}
use Rattle.std.specs.HashMap.{get}
use Rattle.online.specs.Kept.{kept_by, teams_by}
use Rattle.online.proofs.TableLemmas.{ok_weaker}
use Rattle.online.proofs.WaitTeamLemmas.{join_then, join_teams_then}
use Rattle.online.proofs.waits.Waits.join.Goals as goal

pub returns-clause-tasks : goal.returns-clause-tasks
returns-clause-tasks c =
    ok_weaker c.join.result _ _
    (λ enters.
    join_then (kept_by c.args.self.now) (get nat_eq c.put.new.table) c.args.root c.args.parallel
    c.args.size c.of_root.result c.of_root.ensures.new c.in_ok-put.ensures.put)
    c.join.ensures

pub returns-clause-teams : goal.returns-clause-teams
returns-clause-teams c =
    ok_weaker c.join.result _ _
    (join_teams_then (kept_by c.args.self.now) (get nat_eq c.put.new.table) (teams_by c.args.self.now)
    (get nat_eq c.join.new.teams) c.args.root c.args.parallel c.args.size c.of_root.result
    c.of_root.ensures.new c.of_root.ensures.told c.in_ok-put.ensures.put)
    c.join.ensures
