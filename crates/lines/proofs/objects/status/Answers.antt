use Rattle.std.proofs.Common.{[], ◌∷◌, ◌∙◌}
use Rattle.std.specs.List.{AllByRecursion}
use Rattle.ompt_events.specs.declared.names.Status.{Status}
use Rattle.ompt_events.specs.declared.names.Status.TheVariants.{Complete, Yield, Cancel, Detach, EarlyFulfill}
use Rattle.ompt_events.specs.declared.names.Status.TheVariants.{LateFulfill, Switch, TaskwaitComplete}
use Rattle.ompt_events.specs.Names.{status_name}
use Rattle.lines.proofs.MemberLemmas.{ok_or-named}
use Rattle.lines.proofs.objects.status.Goals as goal

every : (P : Status → Type 0)
    → AllByRecursion P
    (Complete ∷ Yield ∷ Cancel ∷ Detach ∷ EarlyFulfill ∷ LateFulfill ∷ Switch ∷ TaskwaitComplete ∷ [])
    → (x : Status) → P x
every P all = elim [
  | Complete ↦ all.0
  | Yield ↦ all.1.0
  | Cancel ↦ all.1.1.0
  | Detach ↦ all.1.1.1.0
  | EarlyFulfill ↦ all.1.1.1.1.0
  | LateFulfill ↦ all.1.1.1.1.1.0
  | Switch ↦ all.1.1.1.1.1.1.0
  | TaskwaitComplete ↦ all.1.1.1.1.1.1.1.0
]

pub returns : goal.returns
returns c =
    c.ok_or.ensures.value
    ∙ ok_or-named status_name
    (Complete ∷ Yield ∷ Cancel ∷ Detach ∷ EarlyFulfill ∷ LateFulfill ∷ Switch ∷ TaskwaitComplete ∷ [])
    every _ c.in_ok-text.field-0.now c.from_name.result c.in_ok-text.ensures c.from_name.ensures
