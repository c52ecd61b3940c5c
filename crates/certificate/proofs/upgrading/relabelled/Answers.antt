use Rattle.std.proofs.Common.{arith}
use Rattle.std.proofs.lemmas.List.Edits.{map_over_more}
use Rattle.ompt_events.specs.Upgrades.{nesting}
use Rattle.certificate.proofs.upgrading.relabelled.Goals as goal

pub loop-at-preserved : goal.loop-at-preserved
loop-at-preserved c =
    map_over_more nesting c.args.records.items c.loop-at.records.items c.loop-at.at c.index_mut.result.now
    (omega (arith, c.loop-at-test.true, c.len-at-end.ensures, c.args.records.ok))
    c.loop-at.invariant c.index_mut.ensures.value
