-- The families of a trace's tasks: by file order, and by the tasks' own order if that is another.
use Rattle.std.specs.Prelude.{ℕ, ◌≡◌, List, Option, Some, None}
use Rattle.std.specs.Option.{option_map_or}
use Rattle.ompt_events.specs.declared.records.Record.{Record}
use Rattle.ompt_events.specs.declared.cause.Cause.TheVariants.{TurnGap}
use Rattle.ompt_events.specs.Places.{places}
use Rattle.ompt_events.specs.Turns.{in_own_order, own_places}
use Rattle.ompt_events.specs.Faults.{FindsFirst}
use Rattle.task_tree.specs.Family.{FamilyView, IsFamilyOf}
use Rattle.task_tree.specs.Rising.{TurnsRise}
use Rattle.task_tree.specs.Runs.{RunView, IsRun}
use Rattle.task_tree.specs.Own.{OwnView}

-- the view of families: that by file order; the run of the arranged records, none only if file order is the
-- tasks' own order; the places in own order; and the first record with a turn gap
pub record FamiliesView : Type 0 where
  pub file : FamilyView
  pub arranged : Option RunView
  pub places : List ℕ
  pub gap : Option ℕ

-- the records are in the tasks' own order: file order is that order, or they are arranged
pub data AreArranged (rs : List Record) : Option RunView → List ℕ → Type 0 where
  as_in_file : TurnsRise rs → AreArranged rs None (places rs)
  by_turn : {run : RunView} → IsRun run → run.records ≡ in_own_order rs
      → AreArranged rs (Some run) (own_places rs)

-- the family by the tasks' own order
abbrev pub own_family : FamiliesView → FamilyView
own_family families = option_map_or (λ (run : RunView). run.family) families.arranged families.file

-- the families are those of the records
pub record AreFamiliesOf (rs : List Record) (families : FamiliesView) : Type 0 where
  pub file : IsFamilyOf rs families.file
  pub own : AreArranged rs families.arranged families.places
  pub gap : FindsFirst rs TurnGap families.gap

-- the run is that of the records in the tasks' own order: as they are in the file, if no task's turns fall
-- along it, or arranged
pub data IsOwnOf (rs : List Record) (own : OwnView) : Type 0 where
  own_in_file : own.run.records ≡ rs → own.places ≡ places rs → TurnsRise rs → IsOwnOf rs own
  own_by_turn : own.run.records ≡ in_own_order rs → own.places ≡ own_places rs → IsOwnOf rs own
