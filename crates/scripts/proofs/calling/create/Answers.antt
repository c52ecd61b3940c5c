use Rattle.std.proofs.Common.{ℕ, ◌≡◌, Option, Some, None, ap, sym, refl, subst}
use Rattle.ompt_events.specs.declared.records.Body.{Body}
use Rattle.callbacks.specs.declared.fault.CallFault.{CallFault}
use Rattle.ompt_events.specs.declared.records.Body.TheVariants.{TaskCreate}
use Rattle.callbacks.specs.Tasks.{is_deep, is_crowded, may_create}
use Rattle.callbacks.specs.Calls.{call_fault}
use Rattle.callbacks.specs.Recorders.{refusal_at}
use Rattle.scripts.proofs.RunCallLemmas.{called_alone, unrefused, not_called, is_id}
use Rattle.scripts.proofs.calling.create.Goals as goal

pub returns-in-Ok-clause-called : goal.returns-in-Ok-clause-called
returns-in-Ok-clause-called c =
    let old = c.args.recorder.now in
    let it = c.in-TaskCreate in
    let t = c.take_first-value.result in
    let first = sym c.take_first-value.ensures.value in
    let id = is_id t it.task (rw (it.is, first) at c.requires.given.first_is) in
    let create : ℕ → Body = λ task. TaskCreate it.deps it.flags task it.child in
    let made = c.in-Ok.ensures in
    rw (it.is, first)
    (called_alone old c.ompt_callback_task_create.new.self (create it.task) (create t.id) (Some t)
    c.args.values.now.second (Some c.ompt_callback_task_create.new.task) (Some c.in-Ok.created) refl refl
    (subst (λ task. refusal_at old (may_create t it.flags) (is_deep t) (is_crowded t) (create task)
    ≡ None) id (unrefused _ made.refused))
    made.made (ap create id) (ap Some made.task) (ap Some made.child))

pub returns-in-Err-clause-fault : goal.returns-in-Err-clause-fault
returns-in-Err-clause-fault c =
    let old = c.args.recorder.now in
    let it = c.in-TaskCreate in
    let t = c.take_first-value.result in
    let first = sym c.take_first-value.ensures.value in
    let id = is_id t it.task (rw (it.is, first) at c.requires.given.first_is) in
    let create : ℕ → Body = λ task. TaskCreate it.deps it.flags task it.child in
    let found : ℕ → Option CallFault = λ task.
    refusal_at old (may_create t it.flags) (is_deep t) (is_crowded t) (create task) in
    rw (it.is, first)
    (not_called old c.ompt_callback_task_create.new.self (found it.task) _
    c.in-Err.fault c.in-Err.ensures.unchanged
    (subst (λ task. c.in-Err.fault ≡ call_fault (found task)) id c.in-Err.ensures.fault))
