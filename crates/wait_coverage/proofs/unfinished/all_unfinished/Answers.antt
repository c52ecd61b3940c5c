use Rattle.std.proofs.Common.{◌∙◌, sym, ap, arith}
use Rattle.ompt_events.specs.Places.{seen_at}
use Rattle.task_tree.specs.Runs.{RunView}
use Rattle.wait_coverage.specs.Done.{DoneView, records_of, tasks_of}
use Rattle.wait_coverage.specs.Waits.{IsCoveredUnfinished}
use Rattle.wait_coverage.proofs.LateLemmas.{each_same, no_task}
use Rattle.wait_coverage.proofs.UnfinishedLemmas.{late_if_unfinished}
use Rattle.wait_coverage.proofs.CoverageLemmas.{waiting_within}
use Rattle.wait_coverage.proofs.HeldLemmas.{own_children_done}
use Rattle.wait_coverage.proofs.unfinished.all_unfinished.Goals as goal

pub find_marks-requires : goal.find_marks-requires
find_marks-requires c =
    rw c.done-done.ensures.value
    (waiting_within (records_of c.args.known.now.done) (tasks_of c.args.known.now.done) c.args.number
    c.in-Some.wait c.in-Some.ensures)

pub returns-in_ok-all_late-in-Some-clause-unfinished : goal.returns-in_ok-all_late-in-Some-clause-unfinished
returns-in_ok-all_late-in-Some-clause-unfinished c = λ are.
    let done = c.args.known.now.done in
    let exact = own_children_done done c.done-done.ensures.is_done are in
    let names =
    c.seen.ensures
    ∙ ap (λ (r : RunView). seen_at r.records c.args.number)
    (c.run.ensures.value ∙ ap (λ (d : DoneView). d.teams.run) c.done-done.ensures.value) in
    let marked = rw c.done-done.ensures.value at c.in_ok-marks-in-Some.ensures in
    let late = rw c.done-done.ensures.value at c.in_ok-all_late-in-Some.ensures in
    each_same _ _ c.in_ok-all_late-in-Some.field-0.items
    (λ task.
    late_if_unfinished done c.args.number c.seen.result task c.in-Some.wait exact
    (omega (arith, c.seen.type_inv)) c.in-Some.ensures (sym names))
    (late c.in-Some.wait (rw c.as_slice.ensures.value marked))

pub returns-in-None-clause-unfinished : goal.returns-in-None-clause-unfinished
returns-in-None-clause-unfinished c = λ are.
    let done = c.args.known.now.done in
    let complete = c.in-None.ensures (own_children_done done c.done-done.ensures.is_done are) in
    rw c.new.ensures.items
    (no_task (IsCoveredUnfinished (records_of done) c.args.number)
    (λ task unfinished. unfinished.incomplete (complete task unfinished.covered)))
