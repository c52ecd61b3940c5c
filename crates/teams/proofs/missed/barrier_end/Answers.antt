use Rattle.std.proofs.Common.{◌≡◌, ◌∙◌, ap, subst, rules}
use Rattle.ompt_events.specs.declared.names.WaitKind.TheVariants.{Barrier}
use Rattle.task_tree.specs.Runs.{RunView, IsNoWaitEvent, IsWaitEvent}
use Rattle.task_tree.specs.Own.{OwnView}
use Rattle.teams.specs.Missed.{EndsNoBarrier}
use Rattle.teams.proofs.EventLemmas.{no_event_end, other_event_end, event_end}
use Rattle.teams.proofs.missed.barrier_end.Goals as goal

pub returns-in_err-event : goal.returns-in_err-event
returns-in_err-event c =
    let P : RunView → Type 0 = λ r. IsNoWaitEvent r c.args.number in
    let silent : IsNoWaitEvent c.args.regions.now.own.run c.args.number =
    subst P (c.run.ensures.value ∙ ap (λ (o : OwnView). o.run) c.own.ensures.value)
    c.in_err-event.ensures in
    let none : EndsNoBarrier c.args.regions.now.own.run.records c.args.number =
    no_event_end c.args.regions.now.own.run c.args.number silent in
    rw c.from_residual.ensures none

pub returns-then-ne : goal.returns-then-ne
returns-then-ne c =
    let event = c.in_ok-event.event in
    let P : RunView → Type 0 = λ r. IsWaitEvent r c.args.number event.task event.kind event.endpoint in
    let is : IsWaitEvent c.args.regions.now.own.run c.args.number event.task event.kind event.endpoint =
    subst P (c.run.ensures.value ∙ ap (λ (o : OwnView). o.run) c.own.ensures.value)
    c.in_ok-event.ensures in
    let apart : event.kind ≡ Barrier → ⊥ = search rules in
    other_event_end c.args.regions.now.own.run c.args.number event.task event.kind event.endpoint is apart

pub returns : goal.returns
returns c =
    let event = c.in_ok-event.event in
    let P : RunView → Type 0 = λ r. IsWaitEvent r c.args.number event.task event.kind event.endpoint in
    let is : IsWaitEvent c.args.regions.now.own.run c.args.number event.task event.kind event.endpoint =
    subst P (c.run.ensures.value ∙ ap (λ (o : OwnView). o.run) c.own.ensures.value)
    c.in_ok-event.ensures in
    let same : event.kind ≡ Barrier = search rules in
    event_end c.args.regions.now.own.run c.args.number event.task c.in_ok-begin.begin event.kind
    event.endpoint is same c.in_ok-begin.ensures
