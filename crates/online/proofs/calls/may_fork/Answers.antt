use Rattle.std.proofs.Common.{◌∙◌, sym, ap}
use Rattle.std.specs.Prelude.{◌||◌}
use Rattle.callbacks.specs.Tasks.{is_initial_task}
use Rattle.online.proofs.CallLemmas.{fork_takes}
use Rattle.online.proofs.calls.may_fork.Goals as goal

pub returns-then-nests : goal.returns-then-nests
returns-then-nests c is own requested parallel may =
    let t = c.in-Some.task.now in
    fork_takes own c.args.place.now c.args.tasks.now requested c.args.task parallel t (sym c.in-Some.ensures)
    (ap (λ b. b || is_initial_task t) (sym c.nests.ensures ∙ c.if-nests.true)) may

pub returns-else-nests : goal.returns-else-nests
returns-else-nests c is own requested parallel may =
    let t = c.in-Some.task.now in
    fork_takes own c.args.place.now c.args.tasks.now requested c.args.task parallel t (sym c.in-Some.ensures)
    (ap (λ b. b || is_initial_task t) (sym c.nests.ensures ∙ c.if-nests.false) ∙ sym c.is_initial.ensures ∙
    is)
    may
