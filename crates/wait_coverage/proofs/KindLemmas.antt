-- Which regions wait for the tasks of a taskwait or of a taskgroup.
use Rattle.std.proofs.Common.{◌≡◌, ◌∙◌, ℕ, Some, refl, ap}
use Rattle.ompt_events.specs.declared.names.Endpoint.{Endpoint}
use Rattle.ompt_events.specs.declared.names.SyncKind.{SyncKind}
use Rattle.ompt_events.specs.declared.names.SyncKind.TheVariants.{Taskwait, Taskgroup}
use Rattle.ompt_events.specs.declared.names.WaitKind.{WaitKind}
use Rattle.ompt_events.specs.declared.names.WaitKind.TheVariants.{Taskwait as ForTaskwait}
use Rattle.ompt_events.specs.declared.names.WaitKind.TheVariants.{Taskgroup as ForTaskgroup}
use Rattle.ompt_events.specs.Places.{at}
use Rattle.ompt_events.specs.Records.{region}
use Rattle.ompt_events.specs.Waits.{wait_kind}
use Rattle.task_tree.specs.Runs.{RunView, IsWaitEvent}

-- the kind of region that waits so
pub taskwait_kind : (kind : SyncKind) → wait_kind kind ≡ Some ForTaskwait → kind ≡ Taskwait
taskwait_kind Taskwait is = refl
taskwait_kind _ is = absurd (cc)

pub taskgroup_kind : (kind : SyncKind) → wait_kind kind ≡ Some ForTaskgroup → kind ≡ Taskgroup
taskgroup_kind Taskgroup is = refl
taskgroup_kind _ is = absurd (cc)

-- what the record says
pub taskwait_says : (run : RunView) (i index : ℕ) (kind : WaitKind) (endpoint : Endpoint)
    (event : IsWaitEvent run i index kind endpoint)
    → kind ≡ ForTaskwait → at region run.records i ≡ Some (event.task, Taskwait, endpoint)
taskwait_says run i index kind endpoint event is =
    event.says
    ∙ ap (λ k. Some (event.task, k, endpoint)) (taskwait_kind event.sync (event.waits ∙ ap Some is))

pub taskgroup_says : (run : RunView) (i index : ℕ) (kind : WaitKind) (endpoint : Endpoint)
    (event : IsWaitEvent run i index kind endpoint)
    → kind ≡ ForTaskgroup → at region run.records i ≡ Some (event.task, Taskgroup, endpoint)
taskgroup_says run i index kind endpoint event is =
    event.says
    ∙ ap (λ k. Some (event.task, k, endpoint)) (taskgroup_kind event.sync (event.waits ∙ ap Some is))
