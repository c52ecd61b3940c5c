use Rattle.std.specs.Prelude.{nat_eq}
use Rattle.std.specs.HashMap.{get}
use Rattle.online.specs.Kept.{kept_by, teams_by}
use Rattle.std.proofs.Common.{refl}
use Rattle.online.proofs.WaitLemmas.{root_end_then, root_end_never}
use Rattle.online.proofs.WaitTeamLemmas.{root_end_teams_then, root_end_teams_never}
use Rattle.online.proofs.waits.Waits.end_root.Goals as goal

pub returns-then-is_root-clause-tasks : goal.returns-then-is_root-clause-tasks
returns-then-is_root-clause-tasks c =
    root_end_then (kept_by c.args.self.now) (get nat_eq c.complete.new.table) (get nat_eq c.settle.new.table)
    c.args.root (c.if-is_root.ensures refl) c.complete.ensures.changed c.settle.ensures.kept

pub returns-then-is_root-clause-teams : goal.returns-then-is_root-clause-teams
returns-then-is_root-clause-teams c =
    root_end_teams_then (kept_by c.args.self.now) (get nat_eq c.complete.new.table)
    (get nat_eq c.settle.new.table) (teams_by c.args.self.now) (get nat_eq c.leave.new.teams)
    (get nat_eq c.settle.new.teams) c.args.root c.team_in.result (c.if-is_root.ensures refl) c.team_in.ensures
    c.leave.ensures c.complete.ensures.changed c.settle.ensures.teams

pub returns-else-is_root-clause-tasks : goal.returns-else-is_root-clause-tasks
returns-else-is_root-clause-tasks c = root_end_never (kept_by c.args.self.now) c.args.root

pub returns-else-is_root-clause-teams : goal.returns-else-is_root-clause-teams
returns-else-is_root-clause-teams c =
    root_end_teams_never (kept_by c.args.self.now) (teams_by c.args.self.now) c.args.root
