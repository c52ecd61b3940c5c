use Rattle.std.proofs.Common.{sym}
use Rattle.online.specs.Groups.{group_at}
use Rattle.online.proofs.GroupEnds.{removed_counted, released_counted}
use Rattle.online.proofs.groups.Groups.release_one.Goals as goal

pub returns-clause-counted : goal.returns-clause-counted
returns-clause-counted c = λ ends all next are.
    released_counted ends all (group_at c.args.self.now) (group_at c.set.new.self) c.args.number next
    c.in-Some.group
    (sym c.in-Some.ensures) c.in_ok-set.ensures.set are

pub returns-then-group-eq0-clause-counted : goal.returns-then-group-eq0-clause-counted
returns-then-group-eq0-clause-counted c = λ ends all next are.
    removed_counted ends all (group_at c.args.self.now) (group_at c.remove.new.self) c.args.number next
    c.remove.ensures.set are
