use Rattle.std.proofs.Common.{◌∙◌, ◌<◌, length, refl, ap}
use Rattle.std.proofs.Common.{arith}
use Rattle.std.specs.Prelude.{is_some}
use Rattle.ompt_events.specs.Records.{finish}
use Rattle.ompt_events.proofs.ListLemmas.{get_within}
use Rattle.ompt_events.proofs.PlaceLemmas.{at_get}
use Rattle.credit_ledger.proofs.MakerLemmas.{one_counted}
use Rattle.credit_ledger.proofs.makers.entry_count.Goals as goal

pub loop-at-preserved : goal.loop-at-preserved
loop-at-preserved c =
    let rs = c.args.run.now.records in
    let i = c.loop-at.at in
    let within : i < length rs = omega (arith, c.loop-at-test.true, c.len-at-end.ensures.value) in
    let there = get_within rs i within in
    one_counted rs i there.0 c.is_finishing.result c.from-count.result _ there.1
    (c.is_finishing.ensures ∙ ap is_some (at_get finish rs i there.0 there.1)) c.from-count.ensures
    c.loop-at.invariant _ refl
