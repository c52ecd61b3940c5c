use Rattle.checker.proofs.SuspensionLemmas.{slot_found}
use Rattle.checker.proofs.suspensions.slot_behind.Goals as goal

pub returns-then-is_explicit : goal.returns-then-is_explicit
returns-then-is_explicit c =
    let end = c.in_ok-end.ensures in
    slot_found c.args.run.now.records c.args.run.now.family.tasks c.args.rows.now c.args.at
    c.in_ok-end.end.index c.in_ok-end.end.turn c.slot_in.result c.requires.is_run.family.makers.apart end
    ((c.is_explicit.ensures end.task end.indexed).0 c.if-is_explicit.true) c.slot_in.ensures
