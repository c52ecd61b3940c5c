use Rattle.std.specs.Prelude.{nat_eq}
use Rattle.std.specs.HashMap.{get}
use Rattle.online.specs.Kept.{kept_by, teams_by}
use Rattle.online.proofs.WaitLemmas.{finish_then}
use Rattle.online.proofs.WaitTeamLemmas.{finish_teams_then}
use Rattle.online.proofs.waits.Waits.complete.Goals as goal

pub returns-clause-tasks : goal.returns-clause-tasks
returns-clause-tasks c =
    finish_then (kept_by c.args.self.now) (get nat_eq c.complete-parent.new.table)
    (get nat_eq c.complete_child.new.table) (get nat_eq c.settle.new.table) c.args.task c.args.seen
    c.complete-parent.result c.complete-parent.ensures.changed c.complete-parent.ensures.parent
    c.complete_child.ensures c.settle.ensures.kept

pub returns-clause-teams : goal.returns-clause-teams
returns-clause-teams c =
    finish_teams_then (kept_by c.args.self.now) (get nat_eq c.complete-parent.new.table)
    (get nat_eq c.complete_child.new.table) (get nat_eq c.settle.new.table) (teams_by c.args.self.now)
    (get nat_eq c.settle.new.teams) c.args.task c.args.seen c.complete-parent.result
    c.complete-parent.ensures.changed c.complete-parent.ensures.parent c.complete_child.ensures
    c.settle.ensures.teams
