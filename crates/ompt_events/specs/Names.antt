-- What each value is called in a file, and what it says by itself.
use Rattle.std.specs.Prelude.{ℕ, Bool, true, false, List, codes, Option, Some, None}
use Rattle.ompt_events.specs.declared.names.Status.{Status}
use Rattle.ompt_events.specs.declared.names.Status.TheVariants.{Complete, Yield, Cancel, Detach, EarlyFulfill}
use Rattle.ompt_events.specs.declared.names.Status.TheVariants.{LateFulfill, Switch, TaskwaitComplete}
use Rattle.ompt_events.specs.declared.names.Endpoint.{Endpoint}
use Rattle.ompt_events.specs.declared.names.Endpoint.TheVariants.{Begin, End, BeginEnd}
use Rattle.ompt_events.specs.declared.names.SyncKind.{SyncKind}
use Rattle.ompt_events.specs.declared.names.SyncKind.TheVariants.{Barrier, BarrierImplicit, BarrierExplicit}
use Rattle.ompt_events.specs.declared.names.SyncKind.TheVariants.{BarrierImplementation, Taskwait, Taskgroup}
use Rattle.ompt_events.specs.declared.names.SyncKind.TheVariants.{Reduction, BarrierImplicitWorkshare}
use Rattle.ompt_events.specs.declared.names.SyncKind.TheVariants.{BarrierImplicitParallel, BarrierTeams}
use Rattle.ompt_events.specs.declared.names.DepKind.{DepKind}
use Rattle.ompt_events.specs.declared.names.DepKind.TheVariants.{In, Out, Inout, Mutexinoutset, Inoutset}
use Rattle.ompt_events.specs.declared.names.ThreadKind.{ThreadKind}
use Rattle.ompt_events.specs.declared.names.ThreadKind.TheVariants.{Initial, Worker, Other, Unknown}
use Rattle.ompt_events.specs.declared.records.Part.{Part}
use Rattle.ompt_events.specs.declared.records.Part.TheVariants.{Whole, Body, Event}

-- OpenMP 5.2, ompt_task_status_t
abbrev pub status_name : Status → List ℕ
status_name Complete = codes "complete"
status_name Yield = codes "yield"
status_name Cancel = codes "cancel"
status_name Detach = codes "detach"
status_name EarlyFulfill = codes "early_fulfill"
status_name LateFulfill = codes "late_fulfill"
status_name Switch = codes "switch"
status_name TaskwaitComplete = codes "taskwait_complete"

-- the part of its task that an event with this status finishes (OpenMP 5.2, 12.5.2: the detach clause)
abbrev pub status_part : Status → Option Part
status_part Complete = Some Whole
status_part Cancel = Some Whole
status_part Detach = Some Body
status_part LateFulfill = Some Event
status_part TaskwaitComplete = Some Whole
status_part _ = None

-- whether another task runs after an event with this status: a fulfilment or a taskwait's own completion
-- switches to none
abbrev pub demands_next : Status → Bool
demands_next EarlyFulfill = false
demands_next LateFulfill = false
demands_next TaskwaitComplete = false
demands_next _ = true

-- OpenMP 5.2, ompt_scope_endpoint_t
abbrev pub endpoint_name : Endpoint → List ℕ
endpoint_name Begin = codes "begin"
endpoint_name End = codes "end"
endpoint_name BeginEnd = codes "beginend"

-- OpenMP 5.2, ompt_sync_region_t
abbrev pub sync_kind_name : SyncKind → List ℕ
sync_kind_name Barrier = codes "barrier"
sync_kind_name BarrierImplicit = codes "barrier_implicit"
sync_kind_name BarrierExplicit = codes "barrier_explicit"
sync_kind_name BarrierImplementation = codes "barrier_implementation"
sync_kind_name Taskwait = codes "taskwait"
sync_kind_name Taskgroup = codes "taskgroup"
sync_kind_name Reduction = codes "reduction"
sync_kind_name BarrierImplicitWorkshare = codes "barrier_implicit_workshare"
sync_kind_name BarrierImplicitParallel = codes "barrier_implicit_parallel"
sync_kind_name BarrierTeams = codes "barrier_teams"

-- OpenMP 5.2, ompt_dependence_type_t
abbrev pub dep_kind_name : DepKind → List ℕ
dep_kind_name In = codes "in"
dep_kind_name Out = codes "out"
dep_kind_name Inout = codes "inout"
dep_kind_name Mutexinoutset = codes "mutexinoutset"
dep_kind_name Inoutset = codes "inoutset"

-- whether two items at one location make the later task wait: not where both only read,
-- or both belong to one set (OpenMP 5.2, 15.9.5)
abbrev pub conflict : DepKind → DepKind → Bool
conflict In In = false
conflict Inoutset Inoutset = false
conflict Mutexinoutset Mutexinoutset = false
conflict _ _ = true

-- OpenMP 5.2, ompt_thread_t
abbrev pub thread_kind_name : ThreadKind → List ℕ
thread_kind_name Initial = codes "initial"
thread_kind_name Worker = codes "worker"
thread_kind_name Other = codes "other"
thread_kind_name Unknown = codes "unknown"
