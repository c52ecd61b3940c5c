use Rattle.std.specs.Prelude.{nat_eq}
use Rattle.std.specs.HashMap.{get}
use Rattle.online.specs.Kept.{kept_by, teams_by}
use Rattle.std.proofs.Common.{refl}
use Rattle.std.proofs.lemmas.Result.{IfOk-weaker}
use Rattle.online.proofs.WaitLemmas.{create_then, create_never}
use Rattle.online.proofs.WaitTeamLemmas.{create_teams_then, create_teams_never}
use Rattle.online.proofs.waits.Waits.create.Goals as goal

pub returns-in_default-clause-tasks : goal.returns-in_default-clause-tasks
returns-in_default-clause-tasks c = λ created.
    create_never (kept_by c.args.self.now) (kept_by c.args.self.now) c.args.parent c.args.child
    (c.in_default.ensures.none refl)

pub returns-in_default-clause-teams : goal.returns-in_default-clause-teams
returns-in_default-clause-teams c = λ created.
    create_teams_never (kept_by c.args.self.now) (kept_by c.args.self.now) (teams_by c.args.self.now)
    (teams_by c.args.self.now) c.args.parent c.args.child (c.in_default.ensures.none refl)

pub returns-clause-tasks : goal.returns-clause-tasks
returns-clause-tasks c =
    IfOk-weaker c.create_in.result _ _
    (λ counted so yes.
    create_then (kept_by c.args.self.now) (get nat_eq c.put.new.table) (get nat_eq c.count_child.new.table)
    c.args.parent c.args.child c.in-Some.place.group c.of_child.result
    (λ above found. (c.in-Some.ensures.some above found).group) c.of_child.ensures.new c.in_ok-put.ensures.put
    c.count_child.ensures)
    c.create_in.ensures

pub returns-clause-teams : goal.returns-clause-teams
returns-clause-teams c =
    IfOk-weaker c.create_in.result _ _
    (λ counted so yes.
    create_teams_then (kept_by c.args.self.now) (get nat_eq c.put.new.table)
    (get nat_eq c.count_child.new.table) (teams_by c.args.self.now) (get nat_eq c.create_in.new.teams)
    c.args.parent c.args.child c.in-Some.place c.of_child.result c.in-Some.ensures.some
    c.of_child.ensures.new c.of_child.ensures.told c.in_ok-put.ensures.put c.count_child.ensures (so yes))
    c.create_in.ensures
