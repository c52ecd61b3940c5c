use Rattle.std.proofs.Common.{◌∙◌, get_or, sym, arith}
use Rattle.std.proofs.lemmas.Bool.{false≢true}
use Rattle.std.proofs.lemmas.Option.{slice_get-get_or}
use Rattle.depend_edges.proofs.PredecessorLemmas.{selected_more, selected_other, clash_with, with_clash}
use Rattle.depend_edges.proofs.predecessors.select.Goals as goal
use Rattle.depend_edges.proofs.predecessors.select.Goals.{then-have_clash+in_ok-push, else-have_clash}

pub loop-at-preserved : goal.loop-at-preserved
loop-at-preserved c =
    let rs = c.args.edges.now.run.records in
    let items = c.args.items.now in
    let siblings = c.args.siblings.now in
    let n = c.loop-at.at in
    let within = c.loop-at-test.true in
    let own = get_or siblings n 0 in
    let here = slice_get-get_or siblings n 0 (omega (arith, within, c.requires)) in
    elim c.if-have_clash.branch [
      | then-have_clash+in_ok-push w ↦
          rw (w.found-is, w.in_ok-push.ensures.items)
          (selected_more rs items siblings c.loop-at.found.items n own here
          (clash_with rs own c.items_of-earlier.result.now items c.items_of-earlier.ensures
          (c.have_clash.ensures.0 w.if-have_clash.true))
          c.loop-at.invariant)
      | else-have_clash w ↦
          rw w.found-is
          (selected_other rs items siblings c.loop-at.found.items n own here
          (λ clashes.
          false≢true
          (sym w.if-have_clash.false
          ∙ c.have_clash.ensures.1
          (with_clash rs own c.items_of-earlier.result.now items
          c.items_of-earlier.ensures clashes)))
          c.loop-at.invariant)
    ]
