use Rattle.std.proofs.Common.{ℕ, ◌∙◌, ◌≤◌, ◌+◌, ap, arith}
use Rattle.std.proofs.lemmas.List.{length_push}
use Rattle.std.proofs.lemmas.List.Sums.{sum_by_more}
use Rattle.std.specs.Prelude.{slice_index}
use Rattle.task_tree.proofs.TurnRowLemmas.{offsets_rise, offsets_last}
use Rattle.task_tree.proofs.turn_rows.find_offsets.Goals as goal

pub loop-count-preserved : goal.loop-count-preserved
loop-count-preserved c =
    let old = c.loop-count.offsets.items in
    let end = c.loop-count.end in
    let i = c.loop-count.count-index in
    let new = end + (slice_index c.args.counts.now i + 1) in
    let up : end ≤ new = omega arith in
    let last = c.loop-count.invariant.last in
    let total = c.loop-count.invariant.total in
    let grows = sum_by_more (λ (x : ℕ). x) c.args.counts.now i 0 c.loop-count-test.true in
    rw c.in_ok-push-2.ensures.items (record {
      all = length_push old new ∙ ap (λ k. k + 1) c.loop-count.invariant.all;
      rising = offsets_rise old end new c.loop-count.invariant.rising last up;
      last = λ index offset is. offsets_last old end new index offset last up is;
      total = omega (arith, total, grows);
    })
