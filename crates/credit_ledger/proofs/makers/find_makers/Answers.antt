use Rattle.std.proofs.Common.{◌≡◌, ◌∙◌, rules, ◌<◌, None, replicate, length, sym, ap, subst, arith}
use Rattle.credit_ledger.specs.TraceMakers.{AreEntryRecords}
use Rattle.credit_ledger.proofs.MakerLemmas.{makers_start, makers_same, makers_more}
use Rattle.credit_ledger.proofs.makers.find_makers.Goals as goal
use Rattle.credit_ledger.proofs.makers.find_makers.Goals.{then-is_finishing, else-is_finishing}

pub loop-at-init : goal.loop-at-init
loop-at-init c = makers_start c.args.run.now.records c.in_ok-makers.makers.items
    (c.in_ok-makers.ensures.items_if_clones_equal (λ y same. search rules)
    ∙ ap (λ n. replicate n None) c.entry_count.ensures)

pub loop-at-preserved : goal.loop-at-preserved
loop-at-preserved c =
    let rs = c.args.run.now.records in
    let within : c.loop-at.at < length rs = omega (arith, c.loop-at-test.true, c.len-at-end.ensures.value) in
    elim c.if-is_finishing.branch [
      | then-is_finishing w ↦ makers_more rs c.loop-at.at c.loop-at.makers.items
          c.if-is_finishing.makers.items within (sym c.is_finishing.ensures ∙ w.if-is_finishing.true)
          (cc) c.loop-at.invariant
      | else-is_finishing w ↦ rw w.makers-is (makers_same rs c.loop-at.at c.loop-at.makers.items within
          (sym c.is_finishing.ensures ∙ w.if-is_finishing.false) c.loop-at.invariant)
    ]

pub returns-clause-records : goal.returns-clause-records
returns-clause-records c =
    let rs = c.args.run.now.records in
    let last : c.loop-at.at ≡ length rs = omega (
      arith,
      c.loop-at-test.false,
      c.loop-at.auto.at-end,
      c.len-at-end.ensures.value,
    ) in
    subst (λ n. AreEntryRecords rs n c.loop-at.makers.items) last c.loop-at.invariant
