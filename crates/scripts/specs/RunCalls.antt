-- What the call of a step does, by the values of the tasks that it names: the body of its record, what it
-- leaves of the values, and why a recorder refuses it.
use Rattle.std.specs.Prelude.{ℕ, ◌&&◌, ◌||◌, Bool, true, false, not, length, Option, Some, None, nat_lt}
use Rattle.std.specs.Prelude.{option_map, option_and_then, if◌then◌else◌}
use Rattle.ompt_events.specs.declared.records.Body.{Body}
use Rattle.ompt_events.specs.declared.records.Body.TheVariants.{ThreadBegin, ThreadEnd, ParallelBegin}
use Rattle.ompt_events.specs.declared.records.Body.TheVariants.{ParallelEnd, ImplicitTask, TaskCreate}
use Rattle.ompt_events.specs.declared.records.Body.TheVariants.{Dependences, TaskSchedule, SyncRegion, Cancel}
use Rattle.ompt_events.specs.declared.names.Endpoint.TheVariants.{Begin, End, BeginEnd}
use Rattle.ompt_events.specs.Flags as flag
use Rattle.ompt_events.specs.Flags.{task_flags, are_named, has_flag}
use Rattle.ompt_events.specs.Names.{status_part}
use Rattle.ompt_events.specs.States.{is_task}
use Rattle.packed_trace.specs.Named.{subject, object}
use Rattle.callbacks.specs.declared.fault.CallFault.{CallFault}
use Rattle.callbacks.specs.declared.fault.CallFault.TheVariants.{WrongState}
use Rattle.callbacks.specs.Tasks.{TaskView, root_of, child_of, with_child, after_start, with_region}
use Rattle.callbacks.specs.Tasks.{without_region, end_of_root, is_root_on, is_deep, is_crowded, is_barred}
use Rattle.callbacks.specs.Tasks.{is_innermost_region, may_create}
use Rattle.callbacks.specs.Calls.{may_cancel}
use Rattle.callbacks.specs.Recorders.{RecorderView, refusal_at, may_fork, uses_ledger}
use Rattle.callbacks.specs.Schedules.{schedule_of, schedule_body, schedule_refusal, left_of, discard_body}
use Rattle.callbacks.specs.Schedules.{discard_refusal}

-- ---- which tasks a call names: its subject and its object, no others

-- the call names the task
abbrev pub names_it : Body → ℕ → Bool
names_it body task = is_task task (subject body) || is_task task (object body)

-- the tasks that a call names, without one that it makes: the call is given the values of these
abbrev pub first_given : Body → Option ℕ
first_given (ImplicitTask Begin actual index given parallel task) = None
first_given body = subject body

abbrev pub second_given : Body → Option ℕ
second_given (TaskSchedule status turns prior next claimed) = next
second_given _ = None

-- the call uses the ledger: its record is a schedule or a discard, or ends a synchronisation region
abbrev pub reads_ledger : Body → Bool
reads_ledger (Cancel given task claimed) = has_flag given.0 flag.discarded_task
reads_ledger body = uses_ledger body

-- ---- what it records and leaves

-- the body of the record: the value of a task that ends gives its claim, those of a task that stops and of
-- the next one their turns, and that of an initial or implicit task that ends the flags and the place in the
-- team with which it began
abbrev pub recorded_body : Body → Option TaskView → Option TaskView → Body
recorded_body (ImplicitTask End actual index given parallel task) (Some t) second = end_of_root t parallel
recorded_body (TaskSchedule status turns prior next claimed) (Some t) second =
    schedule_body (schedule_of t status second) (option_map (λ part. t.claim) (status_part status))
recorded_body (Cancel given task claimed) (Some t) second =
    if has_flag given.0 flag.discarded_task then discard_body t given (Some t.claim)
    else Cancel given task None
recorded_body body first second = body

-- the value of the task that it names first, after a call on this thread
abbrev pub first_left : ℕ → Body → Option TaskView → Option TaskView
first_left thread (ImplicitTask Begin actual index given parallel task) first =
    Some (root_of task (record { home = thread; actual = actual; index = index }) given)
first_left thread (ImplicitTask End actual index given parallel task) first = None
first_left thread (TaskCreate deps given task child) first = option_map with_child first
first_left thread (TaskSchedule status turns prior next claimed) first =
    option_and_then (λ t. left_of t status) first
first_left thread (SyncRegion kind Begin parallel task) first = option_map (λ t. with_region t kind) first
first_left thread (SyncRegion kind End parallel task) first = option_map without_region first
first_left thread (Cancel given task claimed) first =
    if has_flag given.0 flag.discarded_task then None else first
first_left thread body first = first

-- the value of the task that it names next
abbrev pub second_left : Body → Option TaskView → Option TaskView → Option TaskView
second_left (TaskCreate deps given task child) first second = option_map (λ t. child_of t child given) first
second_left (TaskSchedule status turns prior next claimed) first second = option_map after_start second
second_left body first second = second

-- ---- why it is refused

-- why the recorder refuses a call with its task's value, before it needs memory
abbrev pub refusal_by : RecorderView → Body → TaskView → Option TaskView → Option CallFault
refusal_by r (ParallelBegin requested task parallel) t second =
    refusal_at r (may_fork r t) false false (ParallelBegin requested task parallel)
refusal_by r (ParallelEnd task parallel) t second =
    refusal_at r true false false (ParallelEnd task parallel)
refusal_by r (ImplicitTask End actual index given parallel task) t second =
    refusal_at r (is_root_on r.thread t) false false (end_of_root t parallel)
refusal_by r (TaskCreate deps given task child) t second =
    refusal_at r (may_create t given) (is_deep t) (is_crowded t) (TaskCreate deps given task child)
refusal_by r (Dependences task list) t second =
    refusal_at r true false (nat_lt 64 (length list)) (Dependences task list)
refusal_by r (TaskSchedule status turns prior next claimed) t second =
    schedule_refusal r (schedule_of t status second)
refusal_by r (SyncRegion kind Begin parallel task) t second =
    refusal_at r (not (is_barred t kind)) false false (SyncRegion kind Begin parallel task)
refusal_by r (SyncRegion kind End parallel task) t second =
    refusal_at r (is_innermost_region t kind && not (is_barred t kind)) false false
    (SyncRegion kind End parallel task)
refusal_by r (SyncRegion kind BeginEnd parallel task) t second =
    refusal_at r (not (is_barred t kind)) false false (SyncRegion kind BeginEnd parallel task)
refusal_by r (Cancel given task claimed) t second =
    if has_flag given.0 flag.discarded_task then discard_refusal r t given
    else refusal_at r (may_cancel given.0) false false (Cancel given task None)
refusal_by r body t second = Some WrongState

-- the same of any call. An initial or implicit task does not begin and end in one call (OpenMP 5.2,
-- 19.5.2.11)
abbrev pub call_refusal : RecorderView → Body → Option TaskView → Option TaskView → Option CallFault
call_refusal r (ThreadBegin kind) first second = refusal_at r true false false (ThreadBegin kind)
call_refusal r ThreadEnd first second = refusal_at r true false false ThreadEnd
call_refusal r (ImplicitTask Begin actual index given parallel task) first second =
    refusal_at r (are_named task_flags given.0) false false
    (ImplicitTask Begin actual index given parallel task)
call_refusal r (ImplicitTask BeginEnd actual index given parallel task) first second = Some WrongState
call_refusal r body (Some t) second = refusal_by r body t second
call_refusal r body None second = None
