-- Which record makes each ledger entry, in a table by entry.
use Rattle.std.specs.Prelude.{ℕ, ◌≡◌, ◌<◌, List, length, slice_index}
use Rattle.ompt_events.specs.declared.records.Record.{Record}
use Rattle.ompt_events.specs.Places.{seen_at}
use Rattle.ompt_events.specs.declared.cause.Cause.TheVariants.{EntryTwice, LengthAhead}
use Rattle.ompt_events.specs.HappensBefore.{IsFinishing}
use Rattle.ompt_events.specs.Causes.{entries_in, IsFreeOf}
use Rattle.task_tree.specs.Runs.{RunView, IsRun}
use Rattle.checker.specs.Suspensions.{AreSuspensions}
use Rattle.checker.specs.declared.suspensions.Suspensions.{Suspensions}

-- each finishing one of the first n records is at its entry in the table, if the table has that entry; an
-- entry without a record has the number of records
pub record AreEntryPlaces (rs : List Record) (n : ℕ) (makers : List ℕ) : Type 0 where
  pub each : (i : ℕ) → i < n → IsFinishing rs i → seen_at rs i < length makers
      → slice_index makers (seen_at rs i) ≡ i
  pub only : (entry : ℕ) → entry < length makers → slice_index makers entry < length rs
      → IsFinishing rs (slice_index makers entry) × (seen_at rs (slice_index makers entry) ≡ entry)

-- the view of the ledger of a run, and of where its tasks are suspended
pub record MakersView : Type 0 where
  pub run : RunView
  pub places : List ℕ
  pub suspensions : Suspensions

-- the table has each entry of the run's ledger, no entry is made twice, and no record names a greater
-- length
pub record IsLedger (ledger : MakersView) : Type 0 where
  pub run : IsRun ledger.run
  pub makers : AreEntryPlaces ledger.run.records (length ledger.run.records) ledger.places
  pub entries : length ledger.places ≡ entries_in ledger.run.records
  pub once : IsFreeOf ledger.run.records EntryTwice
  pub reached : IsFreeOf ledger.run.records LengthAhead
  pub suspended : AreSuspensions ledger.run.records ledger.run.family.tasks ledger.suspensions
