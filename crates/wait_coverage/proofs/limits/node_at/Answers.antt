use Rattle.std.proofs.Common.{◌≡◌, ◌∙◌, None, sym, subst}
use Rattle.std.proofs.lemmas.Bool.{false≢true}
use Rattle.ompt_events.specs.Places.{at}
use Rattle.ompt_events.specs.Records.{creation}
use Rattle.task_tree.specs.Runs.{RunView, IsNoWaitEvent}
use Rattle.wait_coverage.specs.Limits.{IsMark}
use Rattle.wait_coverage.proofs.LimitLemmas.{quiet_mark}
use Rattle.wait_coverage.proofs.LatestLemmas.{noted_alone}
use Rattle.wait_coverage.proofs.limits.node_at.Goals as goal

pub returns-in_default-wait_event : goal.returns-in_default-wait_event
returns-in_default-wait_event c =
    let P : RunView → Type 0 = λ r. at creation r.records c.args.at ≡ None in
    let Q : RunView → Type 0 = λ r. IsNoWaitEvent r c.args.at in
    let is_run = c.run-run.ensures.value in
    noted_alone c.args.done.now c.args.at c.args.nodes.now c.alone.result c.args.progress.now c.requires.noted
    (subst P is_run c.in_default.ensures) c.alone.ensures.alone
    (quiet_mark c.args.done.now c.args.at c.alone.result.limit
    (subst Q is_run c.in_default-wait_event.ensures))

pub returns : goal.returns
returns c =
    let P : RunView → Type 0 = λ r. at creation r.records c.args.at ≡ None in
    let mark =
    c.limit_at.ensures
    (λ group ends.
    false≢true (sym c.if-ends_taskgroup.false ∙ c.ends_taskgroup.ensures.1 (group, ends))) in
    noted_alone c.args.done.now c.args.at c.args.nodes.now c.alone-2.result c.args.progress.now
    c.requires.noted (subst P c.run-run.ensures.value c.in_default.ensures) c.alone-2.ensures.alone
    (subst (IsMark c.args.done.now c.args.at) (sym c.alone-2.ensures.limit) mark)
