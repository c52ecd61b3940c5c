use Rattle.std.proofs.Common.{◌≡◌, ◌∙◌, None, refl, sym, ap, subst}
use Rattle.ompt_events.specs.declared.records.Body.{Body}
use Rattle.std.proofs.lemmas.Option.{same_Some}
use Rattle.packed_trace.specs.Named.{subject}
use Rattle.online.specs.Tasks.{value_of, IsChanged}
use Rattle.online.specs.Replays.{Takes, MayTake}
use Rattle.online.proofs.CallLemmas.{end_takes}
use Rattle.online.proofs.calls.end_root.Goals as goal

pub returns : goal.returns
returns c is own may =
    let found = c.in-ImplicitTask-End-default-default-default-default-default in
    let tasks = c.args.tasks.now in
    let place = c.args.place.now in
    let later = c.remove.new.self in
    let t = c.in-Some.root.now in
    let (parallel, ends) = c.if-not-is_end_of.ensures refl in
    let same : found.task ≡ t.id =
    same_Some found.task t.id (sym (ap subject found.is) ∙ ap subject ends) in
    let P : Body → Type 0 = λ b. MayTake own place b
    → Takes place.state.now.nests place.number own b tasks later in
    subst P (sym ends)
    (λ may_end. end_takes own place tasks later t parallel
    (ap (value_of tasks) (sym same) ∙ sym c.in-Some.ensures) (sym c.if-not-is_root_on.ensures) may_end
    (subst (λ k. IsChanged tasks later k (λ _. None)) same c.remove.ensures))
    may
