-- The ledger of a trace: the entries that its finishing records make.
use Rattle.std.specs.Prelude.{◌≡◌, ◌≢◌, ◌↔◌, ◌<◌, ◌≤◌, ℕ, List, Option, Some, slice_get}
use Rattle.std.specs.Option.{option_map, option_and_then}
use Rattle.ompt_events.specs.declared.records.Record.{Record}
use Rattle.ompt_events.specs.declared.records.Claim.{Claim}
use Rattle.ompt_events.specs.declared.records.Part.{Part}
use Rattle.ompt_events.specs.declared.records.Part.TheVariants.{Whole}
use Rattle.ompt_events.specs.Records.{finish, claim}
use Rattle.ompt_events.specs.Places.{at, seen_at}
use Rattle.ompt_events.specs.Completion.{IsFinished}
use Rattle.ompt_events.specs.declared.cause.Cause.{Cause}
use Rattle.ompt_events.specs.declared.cause.Cause.TheVariants.{CreatedTwice, ShareWrong, EntryTwice}
use Rattle.ompt_events.specs.declared.cause.Cause.TheVariants.{LengthAhead}
use Rattle.ompt_events.specs.CauseNames.{cause_number}
use Rattle.ompt_events.specs.Causes.{IsFreeOf, ShowsNowhere}
use Rattle.credit_ledger.specs.declared.entry.Entry.{Entry}

-- the entry of a finishing record, by its claim
abbrev pub claimed_entry : ℕ → ℕ × Part → Claim → Entry
claimed_entry thread finished c =
    record {
      thread = thread;
      part = finished.1;
      kept = c.kept;
      task = finished.0;
      root = c.root;
      path = c.path;
    }

abbrev pub entry_of : Record → Option Entry
entry_of r = option_and_then (λ f. option_map (claimed_entry r.thread f) (claim r.body)) (finish r.body)

-- the record at place i makes the entry, with this index in the ledger
pub record IsEntryAt (rs : List Record) (i index : ℕ) (entry : Entry) : Type 0 where
  pub made : option_and_then entry_of (slice_get rs i) ≡ Some entry
  pub seen : seen_at rs i ≡ index

-- the ledger's entries are those of the trace, each at the index that its record names
abbrev pub IsLedgerOf : List Record → List Entry → Type 0
IsLedgerOf rs entries =
    (index : ℕ) (entry : Entry) → (slice_get entries index ≡ Some entry)
    ↔ ((i : ℕ) × IsEntryAt rs i index entry)

-- the entries below the length n finish the task
abbrev pub IsDone : List Record → ℕ → ℕ → Type 0
IsDone rs n task = IsFinished rs (λ k. seen_at rs k < n) task

-- ---- what a ledger requires

-- where two records finish one task, they finish different parts of it, and neither finishes all of it
abbrev pub IsFinishedInParts : List Record → Type 0
IsFinishedInParts rs =
    (i j task : ℕ) (part other : Part) → i ≢ j → at finish rs i ≡ Some (task, part)
    → at finish rs j ≡ Some (task, other) → (part ≢ Whole) × (part ≢ other)

-- the finishing records make a ledger whose credit says which tasks are finished. Only the claimed shares
-- depend on the order of the records.
pub record HasRightEntries (rs : List Record) : Type 0 where
  -- no task is made twice, and no parallel region begun twice
  pub once : IsFreeOf rs CreatedTwice
  -- each finishing record claims the share that its task has left
  pub right : IsFreeOf rs ShareWrong
  -- a task is finished by one record, or its body by one and its event by another
  pub parts : IsFinishedInParts rs
  -- no two finishing records name one index of the ledger
  pub apart : IsFreeOf rs EntryTwice
  -- no finishing record names an index past the ledger's end
  pub within : IsFreeOf rs LengthAhead

-- ---- causes up to a number

-- no cause with this number or a lower one occurs
abbrev pub IsFreeUpTo : List Record → ℕ → Type 0
IsFreeUpTo rs number = (cause : Cause) → cause_number cause ≤ number → IsFreeOf rs cause

-- the trace shows no cause with this number or a lower one
abbrev pub ShowsNoneUpTo : List Record → ℕ → Type 0
ShowsNoneUpTo rs number = (cause : Cause) → cause_number cause ≤ number → ShowsNowhere rs cause
