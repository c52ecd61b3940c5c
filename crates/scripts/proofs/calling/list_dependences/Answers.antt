use Rattle.std.proofs.Common.{ℕ, ◌≡◌, ◌∙◌, Option, Some, None, ap, sym, refl, subst, length, List}
use Rattle.std.specs.Prelude.{nat_lt, false, true}
use Rattle.ompt_events.specs.declared.deps.Dep.{Dep}
use Rattle.ompt_events.specs.declared.records.Body.TheVariants.{Dependences}
use Rattle.callbacks.specs.declared.fault.CallFault.{CallFault}
use Rattle.callbacks.specs.Calls.{call_fault}
use Rattle.callbacks.specs.Recorders.{refusal_at}
use Rattle.scripts.proofs.RunCallLemmas.{called_alone, unrefused, not_called, no_memory, is_id}
use Rattle.scripts.proofs.calling.list_dependences.Goals as goal

pub returns-in_default-copied-clause-fault : goal.returns-in_default-copied-clause-fault
returns-in_default-copied-clause-fault c = no_memory c.args.recorder.now _ _

pub returns-in-Ok-ompt_callback_dependences-clause-called :
    goal.returns-in-Ok-ompt_callback_dependences-clause-called
returns-in-Ok-ompt_callback_dependences-clause-called c =
    let old = c.args.recorder.now in
    let it = c.in-Dependences in
    let t = c.take_first-value.result in
    let first = sym c.take_first-value.ensures.value in
    let id = is_id t it.task (rw (it.is, first) at c.requires.given.first_is) in
    let items = c.in-Ok.ensures ∙ c.as_slice.ensures in
    let found : ℕ → List Dep → Option CallFault = λ task list.
    refusal_at old true false (nat_lt 64 (length list)) (Dependences task list) in
    let made = c.in-Ok-ompt_callback_dependences.ensures in
    rw (it.is, first)
    (called_alone old c.ompt_callback_dependences.new.self (Dependences it.task it.list)
    (Dependences t.id c.in-Ok.items.items) (Some t) c.args.values.now.second (Some t)
    c.take_first-value.new.self.second refl refl
    (subst (λ task. found task it.list ≡ None) id
    (subst (λ list. found t.id list ≡ None) items (unrefused _ made.refused)))
    made.made
    (ap (λ task. Dependences task c.in-Ok.items.items) id ∙ ap (λ list. Dependences it.task list) items)
    refl c.take_first-value.ensures.second)

pub returns-in-Err-clause-fault : goal.returns-in-Err-clause-fault
returns-in-Err-clause-fault c =
    let old = c.args.recorder.now in
    let it = c.in-Dependences in
    let t = c.take_first-value.result in
    let first = sym c.take_first-value.ensures.value in
    let id = is_id t it.task (rw (it.is, first) at c.requires.given.first_is) in
    let items = c.in-Ok.ensures ∙ c.as_slice.ensures in
    let found : ℕ → List Dep → Option CallFault = λ task list.
    refusal_at old true false (nat_lt 64 (length list)) (Dependences task list) in
    rw (it.is, first)
    (not_called old c.ompt_callback_dependences.new.self (found it.task it.list) _ c.in-Err.fault
    c.in-Err.ensures.unchanged
    (subst (λ task. c.in-Err.fault ≡ call_fault (found task it.list)) id
    (subst (λ list. c.in-Err.fault ≡ call_fault (found t.id list)) items c.in-Err.ensures.fault)))
