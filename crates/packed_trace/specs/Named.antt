-- The tasks that a record names first and second.
use Rattle.std.specs.Prelude.{ℕ, Option, Some, None}
use Rattle.ompt_events.specs.declared.records.Body.{Body}
use Rattle.ompt_events.specs.declared.records.Body.TheVariants.{ParallelBegin, ParallelEnd, ImplicitTask}
use Rattle.ompt_events.specs.declared.records.Body.TheVariants.{TaskCreate, Dependences, TaskSchedule}
use Rattle.ompt_events.specs.declared.records.Body.TheVariants.{SyncRegion, Cancel}

-- the task that the record is of: the root that begins or ends, the parent that creates, the prior task of a
-- schedule, the task that is discarded, or the one that does what the record says
abbrev pub subject : Body → Option ℕ
subject (ParallelBegin requested task parallel) = Some task
subject (ParallelEnd task parallel) = Some task
subject (ImplicitTask endpoint actual number flags parallel task) = Some task
subject (TaskCreate deps flags task child) = Some task
subject (Dependences task list) = Some task
subject (TaskSchedule status turns prior next claimed) = Some prior
subject (SyncRegion kind endpoint parallel task) = Some task
subject (Cancel flags task claimed) = Some task
subject _ = None

-- the second task that it names: the child that is created, or the next task of a schedule
abbrev pub object : Body → Option ℕ
object (TaskCreate deps flags task child) = Some child
object (TaskSchedule status turns prior next claimed) = next
object _ = None
