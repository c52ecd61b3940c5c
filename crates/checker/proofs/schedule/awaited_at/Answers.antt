use Rattle.std.proofs.Common.{subst}
use Rattle.checker.specs.Schedule.{IsAwaitedAt}
use Rattle.checker.specs.declared.schedule.Awaited.{Awaited}
use Rattle.checker.proofs.ScheduleLemmas.{creation_called}
use Rattle.checker.proofs.schedule.awaited_at.Goals as goal

pub returns-in-Creation : goal.returns-in-Creation
returns-in-Creation c =
    let P : Awaited → Type 0 = IsAwaitedAt c.args.run.now c.args.at in
    creation_called c.args.run.now.records c.args.run.now.family.tasks c.args.at c.in-Creation.index
    c.created_at.result c.requires.known.facts
    (subst P c.in-Creation.is c.in_ok-index.ensures) c.created_at.ensures
