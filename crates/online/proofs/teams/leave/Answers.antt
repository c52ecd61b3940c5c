use Rattle.std.proofs.Common.{refl}
use Rattle.std.specs.Prelude.{nat_eq}
use Rattle.std.specs.HashMap.{get}
use Rattle.online.proofs.LeaveLemmas.{leaves_one, leaves_none, drops_one, drops_none}
use Rattle.online.proofs.teams.leave.Goals as goal

pub returns-then-count_end : goal.returns-then-count_end
returns-then-count_end c =
    let (team, found, done) = c.if-count_end.ensures.over refl in
    leaves_one c.args.parallel c.in-Some.region (get nat_eq c.args.teams.now)
    (get nat_eq c.count_end.new.teams) (get nat_eq c.remove.new.self) c.in-Some.is c.count_end.ensures.changed
    (drops_one c.in-Some.region c.count_end.new.teams c.remove.new.self team found done
    c.remove.ensures.updates)

pub returns-else-count_end : goal.returns-else-count_end
returns-else-count_end c =
    leaves_one c.args.parallel c.in-Some.region (get nat_eq c.args.teams.now)
    (get nat_eq c.count_end.new.teams) (get nat_eq c.count_end.new.teams) c.in-Some.is
    c.count_end.ensures.changed (drops_none (get nat_eq c.count_end.new.teams))

pub returns-in_default : goal.returns-in_default
returns-in_default c = leaves_none c.args.parallel (get nat_eq c.args.teams.now) c.in_default.is
