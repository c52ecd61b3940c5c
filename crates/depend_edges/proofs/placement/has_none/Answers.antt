use Rattle.std.proofs.Common.{◌∙◌, sym, arith, below_more}
use Rattle.std.proofs.lemmas.Bool.{false≢true}
use Rattle.depend_edges.proofs.PlacementLemmas.{none_here, none_anywhere}
use Rattle.depend_edges.proofs.placement.has_none.Goals as goal

pub loop-at-preserved : goal.loop-at-preserved
loop-at-preserved c =
    below_more _ _ c.loop-at.invariant
    (none_here c.args.run.now.records c.loop-at.at
    (λ has. false≢true (sym c.if-has_dependences.false ∙ c.has_dependences.ensures.1 has)))

pub returns : goal.returns
returns c =
    λ _.
    none_anywhere c.args.run.now.records c.loop-at.at c.loop-at.invariant
    (omega (arith, c.len-at-end.ensures.value, c.loop-at-test.false))
