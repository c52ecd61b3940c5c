use Rattle.std.proofs.Common.{◌≡◌, ◌∙◌, ℕ, length, replicate, ap, subst, arith, false}
use Rattle.depend_edges.specs.Placement.{AreListsMarked}
use Rattle.depend_edges.proofs.PlacementLemmas.{last_none, marked_none}
use Rattle.depend_edges.proofs.placement.find_marks.Goals as goal

pub loop-at-init : goal.loop-at-init
loop-at-init c = record {
  last = last_none c.args.run.now.records c.in_ok-last.last.items c.in_ok-last.ensures;
  marks =
      marked_none c.args.run.now.records c.in_ok-marks.marks.items
      (c.in_ok-marks.ensures ∙ ap (λ (n : ℕ). replicate n false) c.len.ensures.value);
}

pub invariant_of-result : goal.invariant_of-result
invariant_of-result c =
    let all : c.loop-at.at ≡ length c.args.run.now.records =
    omega (arith, c.len-at-end.ensures.value, c.loop-at.auto.at-end, c.loop-at-test.false) in
    let P : ℕ → Type 0 = λ n. AreListsMarked c.args.run.now.records n c.loop-at.marks.items in
    rw c.again-run.ensures (subst P all c.loop-at.invariant.marks)
