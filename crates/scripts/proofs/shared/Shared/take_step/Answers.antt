use Rattle.std.proofs.Common.{arith, length, refl}
use Rattle.std.specs.Prelude.{option_map}
use Rattle.scripts.specs.Parts.{by_another}
use Rattle.scripts.proofs.PlaceLemmas.{place_of_step}
use Rattle.scripts.proofs.NoteLemmas.{step_met}
use Rattle.scripts.proofs.HeardLemmas.{same_heard, further, met_heard, step_heard}
use Rattle.scripts.proofs.StepLemmas.{next_step, step_read, row_within}
use Rattle.scripts.proofs.shared.Shared.take_step.Goals as goal

pub await_tasks-requires : goal.await_tasks-requires
await_tasks-requires g c =
    let script = g.C.Context.script in
    let shared = c.args.self.now in
    let step = c.index-steps-at.result in
    let read =
    step_read script shared.script c.steps.result.now c.args.at c.args.recorder.now.thread step
    c.steps.ensures.value shared.of_the_script c.index-steps-at.is c.requires.step in
    let placed =
    place_of_step script.steps shared.threads.items step.thread c.args.at step shared.by_thread read.0 refl in
    let low = row_within shared.threads.items step.thread _ _ placed in
    omega (arith, low, shared.as_many)

pub returns-in_default-clause-stop : goal.returns-in_default-clause-stop
returns-in_default-clause-stop g c =
    let script = g.C.Context.script in
    let shared = c.args.self.now in
    let step = c.index-steps-at.result in
    let read =
    step_read script shared.script c.steps.result.now c.args.at c.args.recorder.now.thread step
    c.steps.ensures.value shared.of_the_script c.index-steps-at.is c.requires.step in
    rw (shared.is_script.lines c.args.at step read.0) by_another

pub take_ready-requires-clause-next : goal.take_ready-requires-clause-next
take_ready-requires-clause-next g c =
    let script = g.C.Context.script in
    let shared = c.args.self.now in
    let step = c.index-steps-at.result in
    let read =
    step_read script shared.script c.steps.result.now c.args.at c.args.recorder.now.thread step
    c.steps.ensures.value shared.of_the_script c.index-steps-at.is c.requires.step in
    next_step (λ h. h.since) (λ h. h.task) script (length script.steps) c.args.at step c.args.recorder.now
    c.hear.new.recorder c.at-uses.result c.in-Some.taken.pair.first c.in-Some.taken.pair.second
    c.met-values.result.first c.met-values.result.second shared.is_script read.0 read.1 c.requires.run
    (further c.args.recorder.now c.met-values.new.recorder c.hear.new.recorder
    c.met-values.ensures.recorder
    (same_heard c.met-values.new.recorder c.hear.new.recorder _ c.hear.ensures))
    (c.at-uses.ensures script.steps (length script.steps) shared.by_step)
    (λ h. h.value)
    c.in-Some.ensures.first c.in-Some.ensures.second c.met-values.ensures.first
    c.met-values.ensures.second

pub take_ready-requires-clause-met : goal.take_ready-requires-clause-met
take_ready-requires-clause-met g c =
    let script = g.C.Context.script in
    let shared = c.args.self.now in
    let step = c.index-steps-at.result in
    let read =
    step_read script shared.script c.steps.result.now c.args.at c.args.recorder.now.thread step
    c.steps.ensures.value shared.of_the_script c.index-steps-at.is c.requires.step in
    met_heard script g.C.Context.seats c.args.at step c.met-values.new.recorder c.hear.new.recorder _
    c.hear.ensures
    (step_met (λ h. h.since) (λ h. h.task) (λ h. option_map (λ n. n.note) h.note) script g.C.Context.seats
    c.args.at step c.at-uses.result c.in-Some.taken.pair.first c.in-Some.taken.pair.second
    c.args.recorder.now
    c.met-values.new.recorder shared.is_script read.0 read.1 c.requires.aware c.met-values.ensures.recorder
    (c.at-uses.ensures script.steps (length script.steps) shared.by_step) (λ h. h.noted)
    c.in-Some.ensures.first c.in-Some.ensures.second c.met-values.ensures.met)

pub take_ready-requires-clause-heard : goal.take_ready-requires-clause-heard
take_ready-requires-clause-heard g c =
    let script = g.C.Context.script in
    let shared = c.args.self.now in
    let step = c.index-steps-at.result in
    let read =
    step_read script shared.script c.steps.result.now c.args.at c.args.recorder.now.thread step
    c.steps.ensures.value shared.of_the_script c.index-steps-at.is c.requires.step in
    step_heard script g.C.Context.seats c.args.at step c.awaited-after.result _ c.met-values.new.recorder
    c.hear.new.recorder read.0 c.awaited-after.ensures c.in-Some.ensures.after c.hear.ensures
