-- A record says what the call of its step says.
use Rattle.std.proofs.Common.{◌≡◌, ◌∙◌, Option, refl, sym, ap}
use Rattle.ompt_events.specs.declared.records.Body.{Body}
use Rattle.ompt_events.specs.declared.records.Body.TheVariants.{ImplicitTask, TaskSchedule, Cancel}
use Rattle.ompt_events.specs.declared.names.Endpoint.TheVariants.{End}
use Rattle.ompt_events.specs.declared.names.Status.TheVariants as status
use Rattle.ompt_events.specs.Records.{running, region, started, begun_root, creation, ended_root}
use Rattle.ompt_events.specs.Records.{wait_completed, stopped}
use Rattle.callbacks.specs.Tasks.{TaskView}
use Rattle.scripts.specs.Called.{called}
use Rattle.scripts.specs.RunCalls.{first_given, second_given, recorded_body}
use Rattle.scripts.specs.Parts.{id_of}
use Rattle.scripts.proofs.CalledLemmas.{recorded_called}

-- what does not depend on what recorders add
abbrev pub IsOfCall : {X : Type 0} → (Body → X) → Type 0
IsOfCall f = (body : Body) → f (called body) ≡ f body

pub said_by_call : {X : Type 0} (f : Body → X) (body : Body) (first second : Option TaskView) → IsOfCall f
    → id_of first ≡ first_given body → id_of second ≡ second_given body
    → f (recorded_body body first second) ≡ f body
said_by_call f body first second of one two =
    sym (of (recorded_body body first second)) ∙ ap f (recorded_called body first second one two) ∙ of body

pub running_called : IsOfCall running
running_called (ImplicitTask End actual index given parallel task) = refl
running_called (TaskSchedule s turns prior next claimed) = refl
running_called (Cancel given task claimed) = refl
running_called _ = refl

pub region_called : IsOfCall region
region_called (ImplicitTask End actual index given parallel task) = refl
region_called (TaskSchedule s turns prior next claimed) = refl
region_called (Cancel given task claimed) = refl
region_called _ = refl

pub started_called : IsOfCall started
started_called (ImplicitTask End actual index given parallel task) = refl
started_called (TaskSchedule s turns prior next claimed) = refl
started_called (Cancel given task claimed) = refl
started_called _ = refl

pub root_called : IsOfCall begun_root
root_called (ImplicitTask End actual index given parallel task) = refl
root_called (TaskSchedule s turns prior next claimed) = refl
root_called (Cancel given task claimed) = refl
root_called _ = refl

pub end_called : IsOfCall ended_root
end_called (ImplicitTask End actual index given parallel task) = refl
end_called (TaskSchedule s turns prior next claimed) = refl
end_called (Cancel given task claimed) = refl
end_called _ = refl

pub creation_called : IsOfCall creation
creation_called (ImplicitTask End actual index given parallel task) = refl
creation_called (TaskSchedule s turns prior next claimed) = refl
creation_called (Cancel given task claimed) = refl
creation_called _ = refl

pub stopped_called : IsOfCall stopped
stopped_called (ImplicitTask End actual index given parallel task) = refl
stopped_called (TaskSchedule s turns prior next claimed) = refl
stopped_called (Cancel given task claimed) = refl
stopped_called _ = refl

pub wait_called : IsOfCall wait_completed
wait_called (ImplicitTask End actual index given parallel task) = refl
wait_called (TaskSchedule status.TaskwaitComplete turns prior next claimed) = refl
wait_called (TaskSchedule _ turns prior next claimed) = refl
wait_called (Cancel given task claimed) = refl
wait_called _ = refl
