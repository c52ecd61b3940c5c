use Rattle.std.proofs.Common.{◌∙◌, ◌<◌, ◌+◌, length, refl, sym, ap, arith}
use Rattle.std.proofs.lemmas.List.{take_all}
use Rattle.ompt_events.specs.Causes.{entries_in}
use Rattle.ompt_events.proofs.FileOrderLemmas.{entries_same, entries_more}
use Rattle.checker.proofs.makers.entry_count.Goals as goal
use Rattle.checker.proofs.makers.entry_count.Goals.{then-is_finishing, else-is_finishing}

pub loop-at-init : goal.loop-at-init
loop-at-init c = record { count = refl; few = omega arith }

pub loop-at-preserved : goal.loop-at-preserved
loop-at-preserved c =
    let rs = c.args.run.now.records in
    let i = c.loop-at.at in
    let within : i < length rs = rw c.len-at-end.ensures.value at c.loop-at-test.true in
    let few = c.loop-at.invariant.few in
    elim c.if-is_finishing.branch [
      | then-is_finishing w ↦
          rw w.count-is (record {
            count =
                ap (λ n. n + 1) c.loop-at.invariant.count
                ∙ sym (entries_more rs i (sym c.is_finishing.ensures ∙ w.if-is_finishing.true));
            few = omega (arith, few);
          })
      | else-is_finishing w ↦
          rw w.count-is (record {
            count =
                c.loop-at.invariant.count
                ∙ sym (entries_same rs i within (sym c.is_finishing.ensures ∙ w.if-is_finishing.false));
            few = omega (arith, few);
          })
    ]

pub returns : goal.returns
returns c =
    let rs = c.args.run.now.records in
    let count = c.len-at-end.ensures.value in
    c.loop-at.invariant.count
    ∙ ap entries_in (take_all c.loop-at.at rs (omega (arith, c.loop-at-test.false, count)))
