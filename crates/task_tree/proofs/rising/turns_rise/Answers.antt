use Rattle.std.proofs.Common.{refl, below_more, arith}
use Rattle.ompt_events.specs.Causes.{HasTurnGap}
use Rattle.ompt_events.proofs.TurnLemmas.{free_of_gaps}
use Rattle.task_tree.specs.Rising.{IsInOrder}
use Rattle.task_tree.proofs.GapLemmas.{free_of_gap}
use Rattle.task_tree.proofs.RisingPassLemmas.{all_in_order, in_order_rise, untold_in_order}
use Rattle.task_tree.proofs.rising.turns_rise.Goals as goal

pub loop-at-preserved : goal.loop-at-preserved
loop-at-preserved c =
    let rs = c.args.trace.now.records in
    let step = c.goes_on.ensures.on c.if-not-goes_on.false in
    record {
      known = step.known;
      gapless = below_more (λ k. HasTurnGap rs k → ⊥) c.loop-at.at c.loop-at.invariant.gapless step.gapless;
      in_order = below_more (IsInOrder rs) c.loop-at.at c.loop-at.invariant.in_order step.in_order;
    }

pub returns-then-not-goes_on-clause-untold : goal.returns-then-not-goes_on-clause-untold
returns-then-not-goes_on-clause-untold c untold =
    absurd
    (c.goes_on.ensures.off c.if-not-goes_on.true (untold_in_order c.args.trace.now.records untold)
    (free_of_gaps c.args.trace.now.records untold))

pub returns-clause-exact : goal.returns-clause-exact
returns-clause-exact c = (
  λ is. (
    all_in_order c.args.trace.now.records c.loop-at.at
        (omega (arith, c.loop-at-test.false, c.len-at-end.ensures.value)) c.loop-at.invariant.in_order,
    free_of_gap c.args.trace.now.records c.loop-at.at
        (omega (arith, c.loop-at-test.false, c.len-at-end.ensures.value)) c.loop-at.invariant.gapless,
  ),
  λ both. refl,
)

pub returns-clause-rises : goal.returns-clause-rises
returns-clause-rises c is =
    in_order_rise c.args.trace.now.records
    (all_in_order c.args.trace.now.records c.loop-at.at
    (omega (arith, c.loop-at-test.false, c.len-at-end.ensures.value)) c.loop-at.invariant.in_order)

pub returns-clause-gapless : goal.returns-clause-gapless
returns-clause-gapless c is =
    free_of_gap c.args.trace.now.records c.loop-at.at
    (omega (arith, c.loop-at-test.false, c.len-at-end.ensures.value)) c.loop-at.invariant.gapless
