use Rattle.std.proofs.Common.{◌≡◌, ◌∙◌, ◌≤◌, ◌^◌, ℕ, length, replicate, ap, arith}
use Rattle.std.proofs.lemmas.List.{length-replicate}
use Rattle.std.proofs.lemmas.List.Elements.{All-replicate}
use Rattle.checker.proofs.SuspensionLemmas.{lengths_start}
use Rattle.checker.proofs.suspensions.row_lengths.Goals as goal

pub loop-at-init : goal.loop-at-init
loop-at-init c =
    let zeros : c.in_ok-lengths.lengths.items ≡ replicate c.task_count.result 0 =
    c.in_ok-lengths.ensures.items_if_clones_equal (λ y same. same) in
    record {
      all = ap length zeros ∙ length-replicate {A = ℕ} c.task_count.result 0 ∙ c.task_count.ensures.value;
      low = rw zeros (All-replicate (λ (n : ℕ). n ≤ 2 ^ 32) c.task_count.result 0 (omega arith));
      before = lengths_start c.args.run.now.records c.args.run.now.family.tasks c.in_ok-lengths.lengths.items;
    }

pub returns-clause-lengths : goal.returns-clause-lengths
returns-clause-lengths c = λ i index turn below begins.
    let end = rw c.len-at-end.ensures.value at c.loop-at-test.false in
    c.loop-at.invariant.before i index turn (omega (arith, below, end)) begins
