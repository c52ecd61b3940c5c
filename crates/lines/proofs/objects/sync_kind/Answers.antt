use Rattle.std.proofs.Common.{[], ◌∷◌, ◌∙◌}
use Rattle.std.specs.List.{AllByRecursion}
use Rattle.ompt_events.specs.declared.names.SyncKind.{SyncKind}
use Rattle.ompt_events.specs.declared.names.SyncKind.TheVariants.{Barrier, BarrierImplicit, BarrierExplicit}
use Rattle.ompt_events.specs.declared.names.SyncKind.TheVariants.{BarrierImplementation, Taskwait, Taskgroup}
use Rattle.ompt_events.specs.declared.names.SyncKind.TheVariants.{Reduction, BarrierImplicitWorkshare}
use Rattle.ompt_events.specs.declared.names.SyncKind.TheVariants.{BarrierImplicitParallel, BarrierTeams}
use Rattle.ompt_events.specs.Names.{sync_kind_name}
use Rattle.lines.proofs.MemberLemmas.{ok_or-named}
use Rattle.lines.proofs.objects.sync_kind.Goals as goal

every : (P : SyncKind → Type 0)
    → AllByRecursion P
    (Barrier ∷ BarrierImplicit ∷ BarrierExplicit ∷ BarrierImplementation ∷ Taskwait ∷ Taskgroup
    ∷ Reduction ∷ BarrierImplicitWorkshare ∷ BarrierImplicitParallel ∷ BarrierTeams ∷ [])
    → (x : SyncKind) → P x
every P all = elim [
  | Barrier ↦ all.0
  | BarrierImplicit ↦ all.1.0
  | BarrierExplicit ↦ all.1.1.0
  | BarrierImplementation ↦ all.1.1.1.0
  | Taskwait ↦ all.1.1.1.1.0
  | Taskgroup ↦ all.1.1.1.1.1.0
  | Reduction ↦ all.1.1.1.1.1.1.0
  | BarrierImplicitWorkshare ↦ all.1.1.1.1.1.1.1.0
  | BarrierImplicitParallel ↦ all.1.1.1.1.1.1.1.1.0
  | BarrierTeams ↦ all.1.1.1.1.1.1.1.1.1.0
]

pub returns : goal.returns
returns c =
    c.ok_or.ensures.value
    ∙ ok_or-named sync_kind_name
    (Barrier ∷ BarrierImplicit ∷ BarrierExplicit ∷ BarrierImplementation ∷ Taskwait ∷ Taskgroup
    ∷ Reduction ∷ BarrierImplicitWorkshare ∷ BarrierImplicitParallel ∷ BarrierTeams ∷ [])
    every _ c.in_ok-text.field-0.now c.from_name.result c.in_ok-text.ensures c.from_name.ensures
