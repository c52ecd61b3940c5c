-- Which kinds of region wait for the tasks of a taskwait, of a taskgroup or of a barrier, or for none.
use Rattle.std.proofs.Common.{◌≡◌, None, false, refl}
use Rattle.ompt_events.specs.declared.names.SyncKind.{SyncKind}
use Rattle.ompt_events.specs.declared.names.SyncKind.TheVariants.{Barrier, BarrierImplicit, BarrierExplicit}
use Rattle.ompt_events.specs.declared.names.SyncKind.TheVariants.{BarrierImplementation, Taskwait, Taskgroup}
use Rattle.ompt_events.specs.declared.names.SyncKind.TheVariants.{Reduction, BarrierImplicitWorkshare}
use Rattle.ompt_events.specs.declared.names.SyncKind.TheVariants.{BarrierImplicitParallel, BarrierTeams}
use Rattle.ompt_events.specs.Regions.{waits_for_tasks}
use Rattle.ompt_events.specs.Waits.{wait_kind}

-- a region that waits for none is of no kind that waits for tasks
pub silent_sync : (sync : SyncKind) → wait_kind sync ≡ None → waits_for_tasks sync ≡ false
silent_sync Barrier is = cc
silent_sync BarrierImplicit is = cc
silent_sync BarrierExplicit is = cc
silent_sync BarrierImplementation is = refl
silent_sync Taskwait is = cc
silent_sync Taskgroup is = cc
silent_sync Reduction is = refl
silent_sync BarrierImplicitWorkshare is = cc
silent_sync BarrierImplicitParallel is = cc
silent_sync BarrierTeams is = refl
