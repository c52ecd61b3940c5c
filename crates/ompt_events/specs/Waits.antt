-- What the end of a synchronisation region waits for, by its kind (OpenMP 5.2, 15.3 to 15.5).
use Rattle.std.specs.Prelude.{Option, Some, None, if◌then◌else◌}
use Rattle.ompt_events.specs.declared.names.SyncKind.{SyncKind}
use Rattle.ompt_events.specs.declared.names.SyncKind.TheVariants.{Taskwait, Taskgroup}
use Rattle.ompt_events.specs.declared.names.WaitKind.{WaitKind}
use Rattle.ompt_events.specs.declared.names.WaitKind.TheVariants.{Taskwait as ForTaskwait}
use Rattle.ompt_events.specs.declared.names.WaitKind.TheVariants.{Taskgroup as ForTaskgroup}
use Rattle.ompt_events.specs.declared.names.WaitKind.TheVariants.{Barrier as ForBarrier}
use Rattle.ompt_events.specs.Regions.{is_barrier}

-- a region of this kind waits for the tasks of a taskwait, of a taskgroup or of a barrier, or for none
abbrev pub wait_kind : SyncKind → Option WaitKind
wait_kind Taskwait = Some ForTaskwait
wait_kind Taskgroup = Some ForTaskgroup
wait_kind kind = if is_barrier kind then Some ForBarrier else None
