use Rattle.std.proofs.Common.{◌∙◌, length, sym, ap}
use Rattle.std.proofs.lemmas.Bool.{false≢true}
use Rattle.std.specs.Prelude.{not}
use Rattle.depend_edges.specs.Placement.{AreListsMarked}
use Rattle.depend_edges.proofs.PlacementLemmas.{misplaced_unmarked, misplaced_says, unmarked_misplaced}
use Rattle.depend_edges.proofs.PlacementLemmas.{mark_here, unmark_here}
use Rattle.depend_edges.proofs.placement.Marks.is_misplaced.Goals as goal

pub returns-then-not-marks-at : goal.returns-then-not-marks-at
returns-then-not-marks-at c =
    let rs = c.self.inside.run.records in
    let are : AreListsMarked rs (length rs) c.as_slice-marks.result.now =
    rw c.as_slice-marks.ensures.value c.self.invariant in
    rw (← c.self.view_is) (
      λ yes.
          unmarked_misplaced rs c.args.at c.as_slice-marks.result.now are
          (unmark_here c.as_slice-marks.result.now c.args.at c.if-not-marks-at.true)
          (c.has_dependences.ensures.0 yes),
      λ has. c.has_dependences.ensures.1 (misplaced_says rs c.args.at has),
    )

pub returns-else-not-marks-at : goal.returns-else-not-marks-at
returns-else-not-marks-at c =
    let rs = c.self.inside.run.records in
    let are : AreListsMarked rs (length rs) c.as_slice-marks.result.now =
    rw c.as_slice-marks.ensures.value c.self.invariant in
    rw (← c.self.view_is) (
      λ yes. absurd (false≢true (sym (ap not c.if-not-marks-at.false) ∙ yes)),
      λ has.
          absurd
          (misplaced_unmarked rs c.args.at c.as_slice-marks.result.now are has
          (mark_here rs c.as_slice-marks.result.now c.args.at (rw (← c.self.view_is) at c.requires)
          are.all c.if-not-marks-at.false)),
    )
