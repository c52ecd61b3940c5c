use Rattle.std.proofs.Common.{◌≡◌, ◌∙◌, ◌<◌, length, arith, ap}
use Rattle.std.specs.Prelude.{replicate}
use Rattle.wait_coverage.specs.Lengths.{no_lengths}
use Rattle.wait_coverage.proofs.LengthLemmas.{lengths_start}
use Rattle.wait_coverage.proofs.lengths.find_lengths.Goals as goal

pub loop-at-init : goal.loop-at-init
loop-at-init c =
    let is = c.in_ok-table.ensures ∙ ap (λ n. replicate n no_lengths) c.task_count.ensures.value in
    lengths_start c.args.run.now.records (λ k. k < 0) c.args.run.now.family.tasks c.in_ok-table.table.items
    (λ k below. omega arith) is

pub returns : goal.returns
returns c =
    let same = c.len-at-end.ensures.value in
    let all : c.loop-at.at ≡ length c.args.run.now.records =
    omega (arith, same, c.loop-at.auto.at-end, c.loop-at-test.false) in
    rw all at c.loop-at.invariant
