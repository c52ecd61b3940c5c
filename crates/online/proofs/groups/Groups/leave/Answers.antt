use Rattle.std.proofs.Common.{◌∙◌, Some, ◌-◌, sym, ap}
use Rattle.online.specs.Groups.{group_at, put}
use Rattle.online.proofs.GroupLemmas.{put_here}
use Rattle.online.specs.Groups.{with_left}
use Rattle.std.proofs.Common.{None, refl}
use Rattle.online.proofs.GroupEnds.{removed_counted, left_counted, left_absent}
use Rattle.online.proofs.groups.Groups.leave.Goals as goal

pub returns-in_default-clause-left : goal.returns-in_default-clause-left
returns-in_default-clause-left c = λ ends all next task has over are.
    left_absent ends all (group_at c.args.self.now) c.args.number next task
    (sym c.in_default.ensures) are

pub returns-clause-left : goal.returns-clause-left
returns-clause-left c = λ ends all next task has over are.
    left_counted ends all (group_at c.args.self.now) (group_at c.set.new.self) c.args.number
    next task c.args.length c.in-Some.group (sym c.in-Some.ensures) has over
    (λ q.
    c.in_ok-set.ensures.set q
    ∙ ap
    (λ l. put (group_at c.args.self.now) c.args.number
    (Some (record c.in-Some.group { left = l; greatest = c.max.result })) q) c.saturating_sub.ensures
    ∙ ap
    (λ l. put (group_at c.args.self.now) c.args.number
    (Some (record c.in-Some.group { left = c.in-Some.group.left - 1; greatest = l })) q) c.max.ensures)
    are

pub returns-then-is_over-clause-left : goal.returns-then-is_over-clause-left
returns-then-is_over-clause-left c = λ ends all next task has over are.
    c.in_ok-release.ensures.counted ends (with_left all c.args.number task) next
    (left_absent ends all (group_at c.remove.new.self) c.args.number next task
    (c.remove.ensures.set c.args.number ∙ put_here (group_at c.args.self.now) c.args.number None
    c.args.number refl)
    (removed_counted ends all (group_at c.args.self.now) (group_at c.remove.new.self) c.args.number next
    c.remove.ensures.set are))
