-- What steps of a script and records have in common: the call.
use Rattle.std.specs.Prelude.{ℕ, ◌==◌, List, map, filter, None}
use Rattle.ompt_events.specs.declared.records.Body.{Body}
use Rattle.ompt_events.specs.declared.records.Body.TheVariants.{ImplicitTask, TaskSchedule, Cancel}
use Rattle.ompt_events.specs.declared.records.Record.{Record}
use Rattle.ompt_events.specs.declared.names.Endpoint.TheVariants.{End}
use Rattle.scripts.specs.declared.script.Step.{Step}

-- the call of a record or a step, without what recorders add to it: the claim of a finished task, the turns
-- of a schedule, and at the end of an initial or implicit task the team's size, the task's number there and
-- its flags, which are those with which it began
abbrev pub called : Body → Body
called (TaskSchedule status turns prior next claimed) = TaskSchedule status None prior next None
called (Cancel given task claimed) = Cancel given task None
called (ImplicitTask End actual index given parallel task) =
    ImplicitTask End 0 0 (record { 0 = 0 }) parallel task
called body = body

-- the calls of records
abbrev pub recorded_calls : List Record → List Body
recorded_calls rs = map (λ (r : Record). called r.body) rs

-- the calls of one thread among steps
abbrev pub calls_of : List Step → ℕ → List Body
calls_of steps thread =
    map (λ (s : Step). called s.body) (filter (λ (s : Step). s.thread == thread) steps)
