use Rattle.std.proofs.Common.{◌≡◌, ◌∙◌, length, ap, arith}
use Rattle.task_tree.specs.Runs.{RunView}
use Rattle.wait_coverage.specs.Done.{records_of}
use Rattle.wait_coverage.proofs.WaitLemmas.{late_more, late_within}
use Rattle.wait_coverage.proofs.waits.first_late.Goals as goal

pub returns-in-Some : goal.returns-in-Some
returns-in-Some c = λ wait awaited. record {
  place = c.loop-place.place;
  late = c.in-Some.ensures wait awaited;
  first = λ k other below. c.loop-place.invariant wait awaited k other below;
}

pub loop-place-preserved : goal.loop-place-preserved
loop-place-preserved c =
    λ wait awaited.
    late_more c.args.done.now wait c.args.seen c.loop-place.place (c.loop-place.invariant wait awaited)
    (c.in_default.ensures wait awaited)

pub returns : goal.returns
returns c = λ wait awaited place task late.
    let inside = late_within c.args.done.now wait c.args.seen place task c.run.ensures.is_done late in
    let many : c.len-place-end.result ≡ length (records_of c.args.done.now) =
    c.len-place-end.ensures.value ∙ ap (λ (r : RunView). length r.records) c.run.ensures.value in
    c.loop-place.invariant wait awaited place task (omega (arith, inside, many, c.loop-place-test.false)) late
