use Rattle.std.proofs.Common.{arith, below_more}
use Rattle.task_tree.specs.Gaps.{TellsRightly}
use Rattle.task_tree.proofs.ArrangeLemmas.{turns_length, turns_index}
use Rattle.task_tree.proofs.gaps.tell_rightly.Goals as goal

pub bounds-turns-at : goal.bounds-turns-at
bounds-turns-at c =
    let long = turns_length c.args.trace.now.records c.args.turns.now c.requires.turns in
    omega (arith, long, c.loop-at-test.true, c.len-at-end.ensures.value)

pub tells_rightly-requires-clause-turn : goal.tells_rightly-requires-clause-turn
tells_rightly-requires-clause-turn c =
    turns_index c.args.trace.now.records c.args.turns.now c.loop-at.at c.requires.turns
    (omega (arith, c.loop-at-test.true, c.len-at-end.ensures.value))

pub loop-at-preserved : goal.loop-at-preserved
loop-at-preserved c =
    below_more (TellsRightly c.args.trace.now.records) c.loop-at.at c.loop-at.invariant
    (c.tells_rightly.ensures c.if-not-tells_rightly.false)
