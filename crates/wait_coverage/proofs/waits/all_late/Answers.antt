use Rattle.std.proofs.Common.{◌≡◌, ◌∙◌, length, Some, sym, ap, arith}
use Rattle.std.proofs.lemmas.Bool.{false≢true}
use Rattle.std.specs.Prelude.{slice_get}
use Rattle.ompt_events.proofs.ListLemmas.{get_within}
use Rattle.task_tree.specs.Runs.{RunView}
use Rattle.wait_coverage.specs.Done.{tasks_of}
use Rattle.wait_coverage.proofs.LateLemmas.{late_none, late_one, late_not, late_each, awaited_indexed}
use Rattle.wait_coverage.proofs.waits.all_late.Goals as goal

pub loop-index-init : goal.loop-index-init
loop-index-init c = λ wait awaited. rw c.new-late.ensures.items (late_none c.args.done.now wait c.args.seen)

pub loop-index-preserved-then-not-is_late_index : goal.loop-index-preserved-then-not-is_late_index
loop-index-preserved-then-not-is_late_index c = λ wait awaited.
    let done = c.args.done.now in
    let n = c.loop-index.index in
    let many = c.task_count-index-end.ensures.value
    ∙ ap (λ (r : RunView). length r.family.tasks) c.run-run.ensures.value in
    let there = get_within (tasks_of done) n (omega (arith, many, c.loop-index-test.true)) in
    late_not done wait c.args.seen n there.0 c.loop-index.late.items there.1
    (λ late.
    false≢true (sym c.if-not-is_late_index.true ∙ (c.is_late_index.ensures wait there.0 awaited there.1).1
    late))
    (c.loop-index.invariant wait awaited)

pub loop-index-preserved : goal.loop-index-preserved
loop-index-preserved c = λ wait awaited.
    let done = c.args.done.now in
    let n = c.loop-index.index in
    let there : slice_get (tasks_of done) n ≡ Some c.task.result =
    sym (ap (λ (r : RunView). slice_get r.family.tasks n) c.run-run.ensures.value) ∙ c.task.ensures in
    rw c.in_ok-push.ensures.items
    (late_one done wait c.args.seen n c.task.result c.loop-index.late.items
    c.run-run.ensures.is_done.teams.run.family.makers.apart there
    ((c.is_late_index.ensures wait c.task.result awaited there).0 c.if-not-is_late_index.false)
    (c.loop-index.invariant wait awaited))

pub returns : goal.returns
returns c = λ wait awaited.
    let done = c.args.done.now in
    let many = c.task_count-index-end.ensures.value
    ∙ ap (λ (r : RunView). length r.family.tasks) c.run-run.ensures.value in
    late_each done wait c.args.seen c.loop-index.index c.loop-index.late.items
    (omega (arith, many, c.loop-index-test.false))
    (λ task late.
    awaited_indexed done.teams.run.records done.teams.run.family task wait
    c.run-run.ensures.is_done.teams.run.family late.0)
    (c.loop-index.invariant wait awaited)
