use Rattle.std.proofs.Common.{rules, sym, refl}
use Rattle.online.specs.Waits.{CompletesTask}
use Rattle.online.proofs.WaitStepLemmas.{step_task}
use Rattle.online.proofs.waits.Waits.take_finish.Goals as goal

pub returns-in-Some-default-Whole : goal.returns-in-Some-default-Whole
returns-in-Some-default-Whole c =
    let ends = c.in-Some-default-Whole in
    let r = c.args.«record».now in
    step_task (CompletesTask ends.task r.seen) r c.args.self.now c.complete.new.self c.requires.region
    ((ends.field-0-1, sym ends.ensures, search rules), refl) c.complete.ensures.tasks c.complete.ensures.teams
