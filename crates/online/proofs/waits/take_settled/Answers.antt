use Rattle.std.proofs.Common.{refl, sym}
use Rattle.std.specs.Prelude.{nat_eq}
use Rattle.std.specs.HashMap.{get}
use Rattle.online.proofs.TableLemmas.{removes_from}
use Rattle.online.proofs.WaitLemmas.{settle_then, keeps_unchanged}
use Rattle.online.proofs.WaitTeamLemmas.{settle_teams_then, teams_unchanged}
use Rattle.online.proofs.waits.take_settled.Goals as goal

pub returns-in_err-kin-clause-kept : goal.returns-in_err-kin-clause-kept
returns-in_err-kin-clause-kept c =
    keeps_unchanged c.args.table.now c.remove.new.self c.in_err-kin.ensures.unchanged

pub returns-in_err-kin-clause-teams : goal.returns-in_err-kin-clause-teams
returns-in_err-kin-clause-teams c =
    teams_unchanged c.args.table.now c.remove.new.self (get nat_eq c.args.teams.now)
    c.in_err-kin.ensures.unchanged

pub returns-clause-kept : goal.returns-clause-kept
returns-clause-kept c =
    let found = sym c.in_ok-kin.ensures.value in
    let (done, none) = c.if-not-is_settled.ensures refl c.in_ok-kin.kin found in
    settle_then (get nat_eq c.args.table.now) (get nat_eq c.remove.new.self)
    (get nat_eq c.settle_child.new.table) c.args.task c.in_ok-kin.kin found done none
    (removes_from c.args.task c.args.table.now c.remove.new.self c.in_ok-kin.ensures.updates)
    c.settle_child.ensures.settled

pub returns-clause-teams : goal.returns-clause-teams
returns-clause-teams c =
    let found = sym c.in_ok-kin.ensures.value in
    let (done, none) = c.if-not-is_settled.ensures refl c.in_ok-kin.kin found in
    settle_teams_then (get nat_eq c.args.table.now) (get nat_eq c.remove.new.self)
    (get nat_eq c.settle_child.new.table) (get nat_eq c.args.teams.now) (get nat_eq c.settle_in.new.teams)
    c.args.task c.in_ok-kin.kin found done none
    (removes_from c.args.task c.args.table.now c.remove.new.self c.in_ok-kin.ensures.updates)
    c.settle_child.ensures.settled c.settle_in.ensures
