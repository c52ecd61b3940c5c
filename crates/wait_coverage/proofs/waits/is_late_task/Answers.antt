use Rattle.std.proofs.lemmas.Option.{slice_get_within}
use Rattle.wait_coverage.specs.Done.{tasks_of}
use Rattle.wait_coverage.proofs.waits.is_late_task.Goals as goal

pub is_late_index-requires-clause-within : goal.is_late_index-requires-clause-within
is_late_index-requires-clause-within c =
    let there = rw c.run.ensures.value at ((c.index_of.ensures c.in-Some.index).0 c.in-Some.is) in
    slice_get_within (tasks_of c.args.done.now) c.in-Some.index c.args.task there

pub returns-in-Some : goal.returns-in-Some
returns-in-Some c = λ wait awaited.
    let there = rw c.run.ensures.value at ((c.index_of.ensures c.in-Some.index).0 c.in-Some.is) in
    c.is_late_index.ensures wait c.args.task awaited there
