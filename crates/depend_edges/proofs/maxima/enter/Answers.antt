use Rattle.std.proofs.lemmas.Option.{slice_get-get_or}
use Rattle.depend_edges.proofs.MaximaLemmas.{entered_more}
use Rattle.depend_edges.proofs.maxima.enter.Goals as goal

pub loop-at-preserved : goal.loop-at-preserved
loop-at-preserved c =
    entered_more c.args.map.now c.loop-at.map c.insert.new.self c.args.items.now c.loop-at.at
    c.args.task_length _ c.maxima_at.result c.raise-raised.result
    (slice_get-get_or c.args.items.now c.loop-at.at _ c.loop-at-test.true) c.maxima_at.ensures
    c.raise-raised.ensures c.in_ok-insert.ensures.updates c.loop-at.invariant
