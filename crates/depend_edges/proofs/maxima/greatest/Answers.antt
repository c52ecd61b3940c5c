use Rattle.std.proofs.lemmas.Option.{slice_get-get_or}
use Rattle.depend_edges.proofs.MaximaLemmas.{greatest_more}
use Rattle.depend_edges.proofs.maxima.greatest.Goals as goal

pub loop-at-preserved : goal.loop-at-preserved
loop-at-preserved c =
    greatest_more c.args.map.now c.args.items.now c.loop-at.at c.loop-at.greatest c.awaited.result
    c.max-greatest.result _ c.maxima_at.result
    (slice_get-get_or c.args.items.now c.loop-at.at _ c.loop-at-test.true) c.maxima_at.ensures
    c.awaited.ensures c.max-greatest.ensures c.loop-at.invariant
