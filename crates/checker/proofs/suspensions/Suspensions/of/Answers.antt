use Rattle.checker.proofs.SuspensionLemmas.{none_told}
use Rattle.checker.proofs.suspensions.Suspensions.of.Goals as goal

pub returns-then-not-tells_turns : goal.returns-then-not-tells_turns
returns-then-not-tells_turns c = none_told c.args.run.now.records c.args.run.now.family.tasks _ c.requires
    (c.tells_turns.ensures c.if-not-tells_turns.true) c.new.ensures.items
    c.new-then-not-tells_turns.ensures.items
