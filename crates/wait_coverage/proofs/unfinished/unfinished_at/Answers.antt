use Rattle.std.proofs.Common.{◌∙◌, sym, ap, arith}
use Rattle.ompt_events.specs.Places.{seen_at}
use Rattle.task_tree.specs.Runs.{RunView}
use Rattle.wait_coverage.specs.Done.{DoneView, records_of, tasks_of}
use Rattle.wait_coverage.proofs.UnfinishedLemmas.{late_unfinished}
use Rattle.wait_coverage.proofs.CoverageLemmas.{waiting_within}
use Rattle.wait_coverage.proofs.unfinished.unfinished_at.Goals as goal

pub find_marks-requires : goal.find_marks-requires
find_marks-requires c =
    rw c.done-done.ensures.value
    (waiting_within (records_of c.args.known.now.done) (tasks_of c.args.known.now.done) c.args.number
    c.in-Some.wait c.in-Some.ensures)

pub returns-in_ok-marks-in-Some : goal.returns-in_ok-marks-in-Some
returns-in_ok-marks-in-Some c = λ exact.
    let done = c.args.known.now.done in
    let names =
    c.seen.ensures
    ∙ ap (λ (r : RunView). seen_at r.records c.args.number)
    (c.run.ensures.value ∙ ap (λ (d : DoneView). d.teams.run) c.done-done.ensures.value) in
    let late = rw c.done-done.ensures.value at c.first_late.ensures in
    let marked = rw c.done-done.ensures.value at c.in_ok-marks-in-Some.ensures in
    late_unfinished done c.args.number c.seen.result c.in-Some.wait c.first_late.result
    c.done-done.ensures.is_done
    exact (omega (arith, c.seen.type_inv)) c.in-Some.ensures (sym names)
    (late c.in-Some.wait (rw c.as_slice.ensures.value marked))
