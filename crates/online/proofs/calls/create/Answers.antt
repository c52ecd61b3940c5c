use Rattle.std.proofs.Common.{◌∙◌, ◌==◌, cond, Some, sym, ap, subst}
use Rattle.ompt_events.specs.declared.records.Body.{Body}
use Rattle.online.specs.Tasks.{value_of}
use Rattle.online.specs.Replays.{Takes, MayTake}
use Rattle.online.proofs.CallLemmas.{create_takes}
use Rattle.online.proofs.calls.create.Goals as goal

pub returns : goal.returns
returns c is own place may =
    let found = c.in-TaskCreate in
    let tasks = c.args.tasks.now in
    let middle = c.count_child.new.self in
    let later = c.add.new.self in
    let t = c.in-Some.parent.now in
    let P : Body → Type 0 = λ b. MayTake own place b
    → Takes place.state.now.nests place.number own b tasks later in
    subst P (sym found.is)
    (λ may_create. create_takes own place tasks middle later found.deps found.flags found.task found.child t
    (sym c.in-Some.ensures) c.if-task-child.false
    (sym c.are_named.ensures ∙ c.if-not-are_named.false)
    (sym c.is_running.ensures ∙ c.if-not-is_running.false)
    (sym c.is_deep.ensures ∙ c.if-is_deep.false)
    (sym c.is_crowded.ensures ∙ c.if-is_crowded.false) may_create c.count_child.ensures
    (λ id. c.in_ok-add.ensures id ∙ ap (λ v. cond (found.child == id) (Some v) (value_of middle id))
    c.in_ok-made.ensures))
    may
