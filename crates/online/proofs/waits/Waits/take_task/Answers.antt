use Rattle.std.proofs.Common.{◌∙◌, ap}
use Rattle.ompt_events.specs.declared.records.Body.TheVariants.{ImplicitTask}
use Rattle.ompt_events.specs.declared.names.Endpoint.{Endpoint}
use Rattle.ompt_events.specs.Records.{creation, ended_root}
use Rattle.online.specs.Waits.{CreatesTask, EndsRoot}
use Rattle.online.proofs.WaitStepLemmas.{step_task, step_if_ok}
use Rattle.online.proofs.waits.Waits.take_task.Goals as goal

pub returns-in_ok-begin_root-in-Begin : goal.returns-in_ok-begin_root-in-Begin
returns-in_ok-begin_root-in-Begin c = λ yes.
    let root = c.in-ImplicitTask in
    c.in_ok-begin_root-in-Begin.ensures c.args.«record».now root.index
    (root.is
    ∙ ap (λ (e : Endpoint). ImplicitTask e root.actual root.index root.flags root.parallel root.task)
    c.in-Begin.is)

pub returns-in-End : goal.returns-in-End
returns-in-End c = λ yes.
    let root = c.in-ImplicitTask in
    step_task (EndsRoot root.task) c.args.«record».now c.args.self.now c.end_root.new.self c.requires
    (ap ended_root
    (root.is
    ∙ ap (λ (e : Endpoint). ImplicitTask e root.actual root.index root.flags root.parallel root.task)
    c.in-End.is))
    c.end_root.ensures.tasks c.end_root.ensures.teams

pub returns-in-TaskCreate : goal.returns-in-TaskCreate
returns-in-TaskCreate c =
    let made = c.in-TaskCreate in
    step_if_ok c.create.result (CreatesTask made.task made.child) c.args.«record».now c.args.self.now
    c.create.new.self c.requires (ap creation made.is) c.create.ensures.tasks c.create.ensures.teams
