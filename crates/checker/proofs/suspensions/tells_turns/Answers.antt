use Rattle.std.proofs.Common.{◌∙◌, sym, arith}
use Rattle.std.proofs.lemmas.Option.{none-some}
use Rattle.ompt_events.specs.Records.{begun_turn}
use Rattle.ompt_events.proofs.PlaceLemmas.{at_within}
use Rattle.checker.proofs.suspensions.tells_turns.Goals as goal

pub returns : goal.returns
returns c = λ _ i task turn begins later.
    let within = at_within begun_turn c.args.run.now.records i (task, turn) begins in
    let end = c.loop-at-test.false in
    none-some (task, turn) (sym (c.loop-at.invariant i
    (omega (arith, within, end, c.len-at-end.ensures.value))) ∙ begins)
