use Rattle.std.proofs.Common.{◌∙◌, Some, ap, arith}
use Rattle.std.specs.Prelude.{slice_get}
use Rattle.std.proofs.lemmas.Option.{get_or_from_slice_get, slice_get_within}
use Rattle.task_states.specs.Rows.{row_at}
use Rattle.scripts.specs.declared.script.Step.{Step}
use Rattle.scripts.specs.Parts.{awaited_at}
use Rattle.scripts.proofs.HeardLemmas.{named_place}
use Rattle.scripts.proofs.shared.Shared.awaited.Goals as goal

pub returns-in_err-at : goal.returns-in_err-at
returns-in_err-at g c first at comes same =
    let shared = c.args.self.now in
    let row = c.row.result.now in
    let is =
    c.row.ensures ∙ ap (λ l. row_at l c.from.result) c.as_slice.ensures.value
    ∙ ap (row_at shared.threads.items) c.from.ensures in
    let (thread, there) =
    named_place g.C.Context.script.steps shared.threads.items first at c.in_ok-thread.thread
    c.in_ok-thread.number comes shared.by_thread (ap (λ (s : Step). s.after) same ∙ c.in_ok-thread.was) in
    let within =
    slice_get_within row c.in_ok-thread.number first
    (ap (λ l. slice_get l c.in_ok-thread.number) is ∙ there) in
    absurd (omega (arith, within, c.in_err-at.ensures.lookup.3))

pub returns : goal.returns
returns g c first at comes same =
    let shared = c.args.self.now in
    let row = c.row.result.now in
    let is =
    c.row.ensures ∙ ap (λ l. row_at l c.from.result) c.as_slice.ensures.value
    ∙ ap (row_at shared.threads.items) c.from.ensures in
    let (thread, there) =
    named_place g.C.Context.script.steps shared.threads.items first at c.in_ok-thread.thread
    c.in_ok-thread.number comes shared.by_thread (ap (λ (s : Step). s.after) same ∙ c.in_ok-thread.was) in
    let place =
    c.in_ok-at.ensures.lookup.1
    ∙ get_or_from_slice_get row c.in_ok-thread.number first c.in_ok-at.at.now
    (ap (λ l. slice_get l c.in_ok-thread.number) is ∙ there) in
    ap (λ t. Some (awaited_at t c.in_ok-at.at.now)) thread
    ∙ ap (λ n. Some (awaited_at comes.before.thread n)) place
