use Rattle.std.proofs.Common.{sym}
use Rattle.online.specs.Groups.{group_at}
use Rattle.online.proofs.GroupEnds.{clear_over}
use Rattle.online.proofs.groups.Groups.is_clear.Goals as goal

pub returns-in-Some : goal.returns-in-Some
returns-in-Some c = λ yes ends all next task are has.
    let past = c.is_past.ensures yes in
    clear_over ends all (group_at c.args.self.now) c.args.number next c.args.length task c.in-Some.group are
    (sym c.in-Some.ensures) past.0 past.1 has
