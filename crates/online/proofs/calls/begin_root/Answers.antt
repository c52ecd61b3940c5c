use Rattle.std.proofs.Common.{◌≡◌, ◌∙◌, ◌==◌, cond, Some, sym, ap, subst}
use Rattle.ompt_events.specs.declared.records.Body.{Body}
use Rattle.ompt_events.specs.declared.records.Body.TheVariants.{ImplicitTask}
use Rattle.ompt_events.specs.declared.names.Endpoint.TheVariants.{Begin}
use Rattle.online.specs.Tasks.{value_of}
use Rattle.online.specs.Replays.{Takes, MayTake}
use Rattle.online.proofs.CallLemmas.{begin_takes}
use Rattle.online.proofs.calls.begin_root.Goals as goal

pub returns : goal.returns
returns c is own may =
    let found = c.in-ImplicitTask in
    let tasks = c.args.tasks.now in
    let place = c.args.place.now in
    let later = c.add.new.self in
    let P : Body → Type 0 = λ b. MayTake own place b
    → Takes place.state.now.nests place.number own b tasks later in
    let begins : found.endpoint ≡ Begin = c.in-Begin.is in
    let there : c.args.body.now ≡ ImplicitTask found.endpoint found.actual found.index found.flags
    found.parallel
    found.task = found.is in
    subst P
    (sym
    (there ∙ ap (λ e. ImplicitTask e found.actual found.index found.flags found.parallel found.task) begins))
    (λ may_begin. begin_takes own place tasks later found.actual found.index found.parallel found.task
    found.flags
    (sym c.are_named.ensures ∙ c.if-not-are_named.false) may_begin
    (λ id. c.in_ok-add.ensures id ∙ ap (λ v. cond (found.task == id) (Some v) (value_of tasks id))
    c.root-root.ensures))
    may
