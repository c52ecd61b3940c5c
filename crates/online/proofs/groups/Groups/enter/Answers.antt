use Rattle.std.proofs.Common.{◌∙◌, Some, sym, ap, arith}
use Rattle.online.specs.Groups.{group_at, put}
use Rattle.online.proofs.GroupSteps.{entered_counted}
use Rattle.online.proofs.groups.Groups.enter.Goals as goal

pub returns-clause-entered : goal.returns-clause-entered
returns-clause-entered c = λ yes ends all next task are.
    entered_counted ends all (group_at c.args.self.now) (group_at c.set.new.self) c.args.number next task
    c.in-Some.group (sym c.in-Some.ensures)
    (λ q.
    c.in_ok-set.ensures.set q
    ∙ ap (λ l. put (group_at c.args.self.now) c.args.number (Some (record c.in-Some.group { left = l })) q)
    (let e = c.in-Some-checked_add.ensures in omega (arith, e)))
    are
