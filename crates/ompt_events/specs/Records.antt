-- What single records say.
use Rattle.std.specs.Prelude.{ℕ, List, [], ◌∷◌, Option, Some, None, option_to_list, option_map, ◌++◌}
use Rattle.std.specs.Prelude.{if◌then◌else◌}
use Rattle.std.specs.Option.{option_map_or}
use Rattle.ompt_events.specs.declared.deps.Dep.{Dep}
use Rattle.ompt_events.specs.declared.records.Body.{Body}
use Rattle.ompt_events.specs.declared.records.Body.TheVariants.{ParallelBegin, ParallelEnd, ImplicitTask}
use Rattle.ompt_events.specs.declared.records.Body.TheVariants.{TaskCreate, Dependences, TaskSchedule}
use Rattle.ompt_events.specs.declared.records.Body.TheVariants.{SyncRegion, Cancel}
use Rattle.ompt_events.specs.declared.records.Claim.{Claim}
use Rattle.ompt_events.specs.declared.records.Membership.{Membership}
use Rattle.ompt_events.specs.declared.records.Turns.{Turns}
use Rattle.ompt_events.specs.declared.records.Part.{Part}
use Rattle.ompt_events.specs.declared.records.Part.TheVariants.{Whole}
use Rattle.ompt_events.specs.declared.names.Status.{Status}
use Rattle.ompt_events.specs.declared.names.Status.TheVariants.{Yield, EarlyFulfill, LateFulfill, Switch}
use Rattle.ompt_events.specs.declared.names.Status.TheVariants.{TaskwaitComplete}
use Rattle.ompt_events.specs.declared.names.Endpoint.{Endpoint}
use Rattle.ompt_events.specs.declared.names.Endpoint.TheVariants.{Begin, End}
use Rattle.ompt_events.specs.declared.names.SyncKind.{SyncKind}
use Rattle.ompt_events.specs.Flags as flag
use Rattle.ompt_events.specs.Flags.{has_flag}
use Rattle.ompt_events.specs.Names.{status_part, demands_next}

-- the initial or implicit task that begins (OpenMP 5.2, 19.5.2.11)
abbrev pub begun_root : Body → Option ℕ
begun_root (ImplicitTask Begin actual index flags parallel task) = Some task
begun_root _ = None

-- the initial or implicit task that ends
abbrev pub ended_root : Body → Option ℕ
ended_root (ImplicitTask End actual index flags parallel task) = Some task
ended_root _ = None

-- the member of a team that begins; with the flag `initial` the task is none
abbrev pub joined : Body → Option Membership
joined (ImplicitTask Begin actual index flags parallel task) =
    if has_flag flags.0 flag.initial then None
    else Some (record { parallel = parallel; actual = actual; index = index; member = task })
joined _ = None

-- the initial task that begins, which is a team of one
abbrev pub begun_initial : Body → Option ℕ
begun_initial (ImplicitTask Begin actual index flags parallel task) =
    if has_flag flags.0 flag.initial then Some task else None
begun_initial _ = None

-- the task that begins a parallel region, and the region (19.5.2.3)
abbrev pub forked : Body → Option (ℕ × ℕ)
forked (ParallelBegin requested task parallel) = Some (task, parallel)
forked _ = None

-- the parallel region that a record ends (19.5.2.4), or whose team a task joins
abbrev pub region_named : Body → Option ℕ
region_named (ParallelEnd task parallel) = Some parallel
region_named (ImplicitTask Begin actual index flags parallel task) =
    if has_flag flags.0 flag.initial then None else Some parallel
region_named _ = None

-- the task that creates, and the explicit task that it creates (19.5.2.7)
abbrev pub creation : Body → Option (ℕ × ℕ)
creation (TaskCreate deps flags task child) = Some (task, child)
creation _ = None

-- the explicit task that is created
abbrev pub created : Body → Option ℕ
created body = option_map (λ (p : ℕ × ℕ). p.1) (creation body)

-- the explicit task that is created and whose dependences follow
abbrev pub created_with_deps : Body → Option ℕ
created_with_deps (TaskCreate deps flags task child) = if deps then Some child else None
created_with_deps _ = None

-- the task whose dependences are listed, and the list (19.5.2.8)
abbrev pub dependences : Body → Option (ℕ × List Dep)
dependences (Dependences task list) = Some (task, list)
dependences _ = None

-- the task that the record makes
abbrev pub made : Body → Option ℕ
made (ImplicitTask Begin actual index flags parallel task) = Some task
made (TaskCreate deps flags task child) = Some child
made _ = None

-- the status of a task_schedule event, its prior task and its next one (19.5.2.10)
abbrev pub schedule : Body → Option (Status × ℕ × Option ℕ)
schedule (TaskSchedule status turns prior next claimed) = Some (status, prior, next)
schedule _ = None

-- the task that runs from here on (19.5.2.10)
abbrev pub started : Body → Option ℕ
started (TaskSchedule status turns prior next claimed) = next
started _ = None

-- the turns that the record has: which one of the prior task ends, and which one of the next task begins
abbrev pub told_turns : Body → Option Turns
told_turns (TaskSchedule status turns prior next claimed) = turns
told_turns _ = None

-- the same numbers; where the record has no turns, it is turn 0
abbrev pub prior_turn : Body → ℕ
prior_turn body = option_map_or (λ (t : Turns). t.prior) (told_turns body) 0

abbrev pub next_turn : Body → ℕ
next_turn body = option_map_or (λ (t : Turns). t.next) (told_turns body) 0

-- the task that runs from here on, and the turn that it begins
abbrev pub begun_turn : Body → Option (ℕ × ℕ)
begun_turn body = option_map (λ task. (task, next_turn body)) (started body)

-- the task that is suspended, and the turn that it ends (19.5.2.10: ompt_task_yield and ompt_task_switch)
abbrev pub suspended : Body → Option ℕ
suspended (TaskSchedule Yield turns prior next claimed) = Some prior
suspended (TaskSchedule Switch turns prior next claimed) = Some prior
suspended _ = None

abbrev pub suspended_turn : Body → Option (ℕ × ℕ)
suspended_turn body = option_map (λ task. (task, prior_turn body)) (suspended body)

-- the task whose event is fulfilled, early or late (12.5.2: the detach clause)
abbrev pub fulfilled : Body → Option ℕ
fulfilled (TaskSchedule EarlyFulfill turns prior next claimed) = Some prior
fulfilled (TaskSchedule LateFulfill turns prior next claimed) = Some prior
fulfilled _ = None

-- the taskwait with dependences that is complete (15.5: it acts as an empty task with them)
abbrev pub wait_completed : Body → Option ℕ
wait_completed (TaskSchedule TaskwaitComplete turns prior next claimed) = Some prior
wait_completed _ = None

-- the task that is discarded before it began (11.5: cancellation of a taskgroup)
abbrev pub discarded : Body → Option ℕ
discarded (Cancel flags task claimed) = if has_flag flags.0 flag.discarded_task then Some task else None
discarded _ = None

-- the task that is finished, and its part
abbrev pub finish : Body → Option (ℕ × Part)
finish (TaskSchedule status turns prior next claimed) =
    option_map (λ part. (prior, part)) (status_part status)
finish (Cancel flags task claimed) = if has_flag flags.0 flag.discarded_task then Some (task, Whole) else None
finish _ = None

-- what the record claims of the place of the task that it finishes
abbrev pub claim : Body → Option Claim
claim (TaskSchedule status turns prior next claimed) = claimed
claim (Cancel flags task claimed) = claimed
claim _ = None

-- the task that begins or ends a synchronisation region, with the region's kind (19.5.2.13)
abbrev pub region : Body → Option (ℕ × SyncKind × Endpoint)
region (SyncRegion kind endpoint parallel task) = Some (task, kind, endpoint)
region _ = None

-- the flags of the task that is made or ends
abbrev pub flags : Body → Option ℕ
flags (ImplicitTask endpoint actual index given parallel task) = Some given.0
flags (TaskCreate deps given task child) = Some given.0
flags _ = None

-- the flags of a cancellation (19.5.2.18)
abbrev pub cancellation : Body → Option ℕ
cancellation (Cancel given task claimed) = Some given.0
cancellation _ = None

-- the task that must be running on the thread: the one that the record is of
abbrev pub running : Body → Option ℕ
running (ParallelBegin requested task parallel) = Some task
running (ParallelEnd task parallel) = Some task
running (ImplicitTask End actual index given parallel task) = Some task
running (TaskCreate deps given task child) = Some task
running (TaskSchedule status turns prior next claimed) = if demands_next status then Some prior else None
running (SyncRegion kind endpoint parallel task) = Some task
running (Cancel given task claimed) = if has_flag given.0 flag.discarded_task then None else Some task
running _ = None

-- the task that stops running, whether or not it runs again
abbrev pub stopped : Body → Option ℕ
stopped (TaskSchedule status turns prior next claimed) = if demands_next status then Some prior else None
stopped _ = None

-- the same task, and the turn that it ends
abbrev pub ended_turn : Body → Option (ℕ × ℕ)
ended_turn body = option_map (λ task. (task, prior_turn body)) (stopped body)

-- each member that is a task
abbrev pub named : Body → List ℕ
named (ParallelBegin requested task parallel) = task ∷ []
named (ParallelEnd task parallel) = task ∷ []
named (ImplicitTask endpoint actual index given parallel task) = task ∷ []
named (TaskCreate deps given task child) = task ∷ child ∷ []
named (Dependences task list) = task ∷ []
named (TaskSchedule status turns prior next claimed) =
    prior ∷ option_to_list next ++ option_to_list (option_map (λ (c : Claim). c.root) claimed)
named (SyncRegion kind endpoint parallel task) = task ∷ []
named (Cancel given task claimed) = task ∷ option_to_list (option_map (λ (c : Claim). c.root) claimed)
named _ = []
