-- What a packed trace keeps of each record.
use Rattle.std.specs.Prelude.{ℕ, List, Option, Bool, true, false, is_some, option_map}
use Rattle.std.specs.Prelude.{option_and_then, slice_get, unwrap_or}
use Rattle.std.specs.Option.{option_map_or}
use Rattle.ompt_events.specs.declared.records.Record.{Record}
use Rattle.ompt_events.specs.declared.records.Body.{Body}
use Rattle.ompt_events.specs.declared.records.Body.TheVariants.{ThreadBegin, ThreadEnd, ParallelBegin}
use Rattle.ompt_events.specs.declared.records.Body.TheVariants.{ParallelEnd, ImplicitTask, TaskCreate}
use Rattle.ompt_events.specs.declared.records.Body.TheVariants.{Dependences, TaskSchedule, SyncRegion, Cancel}
use Rattle.ompt_events.specs.declared.names.Endpoint.TheVariants.{Begin, End, BeginEnd}
use Rattle.ompt_events.specs.declared.names.Status.{Status}
use Rattle.ompt_events.specs.declared.deps.Dep.{Dep}
use Rattle.ompt_events.specs.Flags as flag
use Rattle.ompt_events.specs.Flags.{has_flag}
use Rattle.ompt_events.specs.Records.{dependences, flags, forked, made, next_turn, prior_turn, schedule}
use Rattle.packed_trace.specs.declared.act.Act.{Act}
use Rattle.packed_trace.specs.declared.act.Act.TheVariants as act
use Rattle.packed_trace.specs.declared.act.PackedEvent.{PackedEvent}
use Rattle.packed_trace.specs.declared.ids.Ids.{Ids}
use Rattle.packed_trace.specs.declared.columns.Numbers.{Numbers}

-- an initial task begins, or an implicit one
abbrev pub root_begun : Bool → Bool → Bool → Act
root_begun true wait target = act.InitialBegin wait target
root_begun false wait target = act.ImplicitBegin wait target

-- a task is created, and its dependences follow or not
abbrev pub task_created : Bool → Bool → Bool → Act
task_created true wait target = act.CreateWithDeps wait target
task_created false wait target = act.Create wait target

-- what the record says, without the tasks, regions and numbers that it names
abbrev pub act_of : Body → Act
act_of (ThreadBegin kind) = act.Thread
act_of ThreadEnd = act.Thread
act_of (ParallelBegin requested task parallel) = act.Fork
act_of (ParallelEnd task parallel) = act.Join
act_of (ImplicitTask Begin actual number flags parallel task) =
    root_begun (has_flag flags.0 flag.initial) (has_flag flags.0 flag.taskwait) (has_flag flags.0 flag.target)
act_of (ImplicitTask End actual number flags parallel task) = act.RootEnd
act_of (ImplicitTask BeginEnd actual number flags parallel task) = act.RootBoth
act_of (TaskCreate deps flags task child) =
    task_created deps (has_flag flags.0 flag.taskwait) (has_flag flags.0 flag.target)
act_of (Dependences task list) = act.Depend
act_of (TaskSchedule status turns prior next claimed) = act.Schedule status (is_some turns)
act_of (SyncRegion kind endpoint parallel task) = act.Region kind endpoint
act_of (Cancel flags task claimed) = act.Cancel (has_flag flags.0 flag.discarded_task)

-- with its thread, and the ledger length that it names
abbrev pub packed : Record → PackedEvent
packed r = record { act = act_of r.body; thread = r.thread; seen = r.seen }

-- the task that the record is of, and 0 if it is of none
abbrev pub first_id : Body → ℕ
first_id (ParallelBegin requested task parallel) = task
first_id (ParallelEnd task parallel) = task
first_id (ImplicitTask endpoint actual number flags parallel task) = task
first_id (TaskCreate deps flags task child) = task
first_id (Dependences task list) = task
first_id (TaskSchedule status turns prior next claimed) = prior
first_id (SyncRegion kind endpoint parallel task) = task
first_id (Cancel flags task claimed) = task
first_id _ = 0

-- the second task that it names, or its parallel region; 0 if it names none
abbrev pub second_id : Body → ℕ
second_id (ParallelBegin requested task parallel) = parallel
second_id (ParallelEnd task parallel) = parallel
second_id (ImplicitTask endpoint actual number flags parallel task) = parallel
second_id (TaskCreate deps flags task child) = child
second_id (TaskSchedule status turns prior next claimed) = unwrap_or next 0
second_id _ = 0

abbrev pub ids_of : Body → Ids
ids_of body = record { first = first_id body; second = second_id body }

-- the turn that the prior task ends, or how many members the team has
abbrev pub first_number : Body → ℕ
first_number (ImplicitTask endpoint actual number flags parallel task) = actual
first_number body = prior_turn body

-- the turn that the next task begins, or the number of the member
abbrev pub second_number : Body → ℕ
second_number (ImplicitTask endpoint actual number flags parallel task) = number
second_number body = next_turn body

abbrev pub numbers_of : Body → Numbers
numbers_of body = record { first = first_number body; second = second_number body }

-- the dependences that the record lists
abbrev pub listed_deps : Body → Option (List Dep)
listed_deps body = option_map (λ (d : ℕ × List Dep). d.1) (dependences body)

-- the parallel region that begins
abbrev pub forked_region : Body → Option ℕ
forked_region body = option_map (λ (p : ℕ × ℕ). p.1) (forked body)

-- the status of a task_schedule event
abbrev pub schedule_status : Body → Option Status
schedule_status body = option_map (λ (s : Status × ℕ × Option ℕ). s.0) (schedule body)

-- whether the task that the record makes has the flag
abbrev pub made_with : ℕ → Body → Bool
made_with bit body =
    option_map_or (λ task. option_map_or (λ bits. has_flag bits bit) (flags body) false) (made body) false

-- the same of the record at the place
abbrev pub makes_with : ℕ → List Record → ℕ → Bool
makes_with bit rs i = option_map_or (λ (r : Record). made_with bit r.body) (slice_get rs i) false

-- both, if there are both
abbrev pub both : {X Y : Type 0} → Option X → Option Y → Option (X × Y)
both first second = option_and_then (λ x. option_map (λ y. (x, y)) second) first
