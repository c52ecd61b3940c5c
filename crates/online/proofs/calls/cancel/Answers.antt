use Rattle.std.proofs.Common.{◌≡◌, ◌∙◌, true, Some, None, refl, sym, ap, subst}
use Rattle.ompt_events.specs.declared.records.Body.{Body}
use Rattle.ompt_events.specs.declared.records.Claim.{Claim}
use Rattle.ompt_events.specs.declared.records.Body.TheVariants.{Cancel}
use Rattle.std.specs.Prelude.{Option, is_some, not}
use Rattle.std.proofs.lemmas.Bool.{false≢true}
use Rattle.online.specs.Tasks.{value_of, IsChanged}
use Rattle.online.specs.Replays.{Takes, MayTake}
use Rattle.online.proofs.CallLemmas.{cancel_takes, discard_takes}
use Rattle.online.proofs.calls.cancel.Goals as goal

pub returns-then-not-contains : goal.returns-then-not-contains
returns-then-not-contains c is own place may =
    let found = c.in-Cancel in
    let tasks = c.args.tasks.now in
    let P : Body → Type 0 = λ b. MayTake own place b
    → Takes place.state.now.nests place.number own b tasks tasks in
    subst P (sym (found.is ∙ ap (Cancel found.flags found.task)
    (none found.claim (c.is_none.ensures ∙ ap not is))))
    (cancel_takes own place tasks found.flags found.task c.in-Some.found.now (sym c.in-Some.ensures)
    (sym c.if-not-are_named.ensures) (sym (c.if-not-contains.ensures tt)))
    may
  where
    none : (o : Option Claim) → is_some o ≡ not true → o ≡ None
    none None same = refl
    none (Some x) same = absurd (false≢true (sym same))

pub returns : goal.returns
returns c is own place may =
    let found = c.in-Cancel in
    let tasks = c.args.tasks.now in
    let later = c.remove.new.self in
    let t = c.in-Some.found.now in
    let same : found.task ≡ t.id = sym c.if-id-task.false ∙ c.id.ensures in
    let P : Body → Type 0 = λ b. MayTake own place b
    → Takes place.state.now.nests place.number own b tasks later in
    subst P
    (sym
    (found.is ∙ ap (λ k. Cancel found.flags k found.claim) same
    ∙ ap (Cancel found.flags t.id) (sym (c.if-not-is_claimed.ensures refl))))
    (λ may_discard. discard_takes own place tasks later found.flags t
    (ap (value_of tasks) (sym same) ∙ sym c.in-Some.ensures)
    (sym c.if-not-are_named.ensures) (sym (c.if-not-contains.ensures tt))
    (ap is_some (sym c.state_discarded.ensures) ∙ c.is_none-2.ensures ∙ ap not c.if-is_none.false) may_discard
    (subst (λ k. IsChanged tasks later k (λ _. None)) same c.remove.ensures))
    may
