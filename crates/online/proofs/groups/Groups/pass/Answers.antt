use Rattle.std.proofs.Common.{◌∙◌, Some, None, sym, ap, max}
use Rattle.online.specs.Groups.{group_at, put}
use Rattle.online.proofs.GroupEnds.{past, past_counted}
use Rattle.online.proofs.GroupLemmas.{put_over}
use Rattle.online.proofs.groups.Groups.pass.Goals as goal

pub returns-clause-counted : goal.returns-clause-counted
returns-clause-counted c = λ ends all next are.
    past_counted ends all (group_at c.args.self.now) (group_at c.set.new.self) c.args.number
    c.in-Some-before.before next c.in-Some.own c.in-Some-get.earlier
    (sym c.in-Some.ensures) c.in-Some-before.is (sym c.in-Some-get.ensures) c.if-earlier-ne0.false
    (λ q.
    c.in_ok-set.ensures.set q
    ∙ ap
    (λ m. put (group_at c.remove.new.self) c.args.number
    (Some (record c.in-Some.own { floor = m; before = c.in-Some-get.earlier.before })) q)
    (c.max-2.ensures ∙ ap (max c.in-Some.own.floor) c.max.ensures)
    ∙ put_over (group_at c.remove.new.self) (put (group_at c.args.self.now) c.in-Some-before.before None)
    c.args.number (Some (past c.in-Some.own c.in-Some-get.earlier)) q (c.remove.ensures.set q))
    are
