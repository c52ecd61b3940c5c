-- The least ledger length at which each task is finished.
use Rattle.std.specs.Prelude.{ℕ, ◌≡◌, ◌<◌, ◌≤◌, ◌+◌, ◌⊎◌, List, length, Some, min, max, slice_get}
use Rattle.ompt_events.specs.declared.records.Record.{Record}
use Rattle.ompt_events.specs.declared.records.Part.{Part}
use Rattle.ompt_events.specs.declared.records.Part.TheVariants.{Whole, Body, Event}
use Rattle.ompt_events.specs.Records.{finish}
use Rattle.ompt_events.specs.Places.{at, seen_at}
use Rattle.wait_coverage.specs.declared.lengths.Lengths.{Lengths}

-- a number above all ledger lengths
abbrev pub never : ℕ
never = 0xFFFF_FFFF_FFFF_FFFF

-- no part of a task is finished
abbrev pub no_lengths : Lengths
no_lengths = record { whole = never; body = never; event = never }

-- the least length at which the part is finished
abbrev pub length_of : Lengths → Part → ℕ
length_of lengths Whole = lengths.whole
length_of lengths Body = lengths.body
length_of lengths Event = lengths.event

-- the lengths with the part finished at this one, if not at a lesser one
abbrev pub with_length : Lengths → Part → ℕ → Lengths
with_length l Whole n = record { whole = min l.whole n; body = l.body; event = l.event }
with_length l Body n = record { whole = l.whole; body = min l.body n; event = l.event }
with_length l Event n = record { whole = l.whole; body = l.body; event = min l.event n }

-- the least length at which the task is finished: whole, or both its body and its event
abbrev pub done_length : Lengths → ℕ
done_length l = min l.whole (max l.body l.event)

-- for each part of the task the ledger length after an entry for it, or never; it is at most that of each
-- record for which `counts` holds
pub record AreLeast (rs : List Record) (counts : ℕ → Type 0) (task : ℕ) (lengths : Lengths) : Type 0 where
  pub each : (part : Part) (k : ℕ) → counts k → at finish rs k ≡ Some (task, part)
      → length_of lengths part ≤ seen_at rs k + 1
  pub only : (part : Part) → (length_of lengths part ≡ never) ⊎ ((k : ℕ) ×
      (at finish rs k ≡ Some (task, part)) × (length_of lengths part ≡ seen_at rs k + 1))

-- by index of each task its lengths
pub record AreLengthsBy (rs : List Record) (counts : ℕ → Type 0) (tasks : List ℕ)
    (table : List Lengths) : Type 0 where
  pub all : length table ≡ length tasks
  pub each : (index task : ℕ) (lengths : Lengths) → slice_get tasks index ≡ Some task
      → slice_get table index ≡ Some lengths → AreLeast rs counts task lengths

-- by the first n records
abbrev pub AreLengths : List Record → ℕ → List ℕ → List Lengths → Type 0
AreLengths rs n tasks table = AreLengthsBy rs (λ k. k < n) tasks table

-- by the records of the first n entries
abbrev pub AreLengthsBelow : List Record → ℕ → List ℕ → List Lengths → Type 0
AreLengthsBelow rs n tasks table = AreLengthsBy rs (λ k. seen_at rs k < n) tasks table
