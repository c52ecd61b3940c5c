-- The trace that is gathered from the records of all threads, and when there is one.
use Rattle.std.specs.Prelude.{ℕ, ◌≡◌, ◌≢◌, ◌<◌, ◌≤◌, Bool, List, length, Some, slice_get, if◌then◌else◌}
use Rattle.std.specs.List.{flat_map}
use Rattle.ompt_events.specs.declared.records.Record.{Record}
use Rattle.ompt_events.specs.declared.cause.Cause.TheVariants.{EntryTwice}
use Rattle.ompt_events.specs.Limits.{max_records, max_tasks}
use Rattle.ompt_events.specs.Places.{at, seen_at}
use Rattle.ompt_events.specs.Records.{created, discarded, fulfilled}
use Rattle.ompt_events.specs.HappensBefore.{IsStart, IsResumption}
use Rattle.ompt_events.specs.Causes.{IsFreeOf, entries_in}
use Rattle.ompt_events.specs.Traces.{tasks_in}
use Rattle.callbacks.specs.Buffers.{BufferView}
use Rattle.credit_ledger.specs.TraceEntries.{IsLedgerOf}
use Rattle.callbacks.specs.Logs.{AreOfKind}
use Rattle.callbacks.specs.declared.fault.CallFault.{CallFault}
use Rattle.callbacks.specs.declared.fault.CallFault.TheVariants.{Memory, Full, WrongState}
use Rattle.callbacks.specs.declared.gathering.Counted.{Counted}
use Rattle.callbacks.specs.declared.gathering.Counted.TheVariants.{Entries, Records, Tasks}
use Rattle.callbacks.specs.Closed.{ClosedView}

-- all records, one thread after another
abbrev pub gathered : List BufferView → List Record
gathered buffers = flat_map (λ (b : BufferView). b.records) buffers

-- no two buffers have the same thread number
abbrev pub HaveOwnThreads : List BufferView → Type 0
HaveOwnThreads buffers =
    (i j : ℕ) (a b : BufferView) → i < j → slice_get buffers i ≡ Some a → slice_get buffers j ≡ Some b
    → a.thread ≢ b.thread

-- the finishing records and the ledger's entries pair off one to one: there is an entry at an index if and
-- only if a finishing record names that index and has the entry's thread, task, part and claim; and no two
-- finishing records name the same index
pub record ArePaired (closed : ClosedView) : Type 0 where
  pub ledger : IsLedgerOf (gathered closed.buffers) closed.entries
  pub once : IsFreeOf (gathered closed.buffers) EntryTwice

-- there are no more records and tasks than a trace may have
abbrev pub IsWithinLimits : List Record → Type 0
IsWithinLimits rs = (length rs ≤ max_records) × (tasks_in rs ≤ max_tasks)

-- the version of the trace: regions may lie inside others in version 3
abbrev pub version_of : Bool → ℕ
version_of nests = if nests then 3 else 2

-- how many of what is counted there are in the records
abbrev pub count_of : Counted → List Record → ℕ
count_of Entries rs = entries_in rs
count_of Records rs = length rs
count_of Tasks rs = tasks_in rs

-- the records are of the trace's version, no two buffers have the same thread number, and the finishing
-- records and the entries pair off
pub record BelongTogether (nests : Bool) (closed : ClosedView) : Type 0 where
  pub of_kind : AreOfKind nests (gathered closed.buffers)
  pub apart : HaveOwnThreads closed.buffers
  pub paired : ArePaired closed

-- why there is no trace: these do not hold; else there are too many records or tasks; else out of memory
pub data IsGatherFault (nests : Bool) (closed : ClosedView) : CallFault → Type 0 where
  not_together : (BelongTogether nests closed → ⊥) → IsGatherFault nests closed WrongState
  too_many : BelongTogether nests closed → (IsWithinLimits (gathered closed.buffers) → ⊥)
      → IsGatherFault nests closed Full
  out_of_memory : BelongTogether nests closed → IsWithinLimits (gathered closed.buffers)
      → IsGatherFault nests closed Memory

-- a task goes from record a to record b: it is created at a, and starts, is discarded or has its event
-- fulfilled at b; or it is suspended at a, and runs on at b. All steps of the program are of these kinds,
-- except those from record to record of one thread
pub data IsHandOver (rs : List Record) (a b : ℕ) : Type 0 where
  started : (task : ℕ) → at created rs a ≡ Some task → IsStart rs b task → IsHandOver rs a b
  was_discarded : (task : ℕ) → at created rs a ≡ Some task → at discarded rs b ≡ Some task → IsHandOver rs a b
  was_fulfilled : (task : ℕ) → at created rs a ≡ Some task → at fulfilled rs b ≡ Some task → IsHandOver rs a b
  runs_on : IsResumption rs a b → IsHandOver rs a b

-- wherever a task goes from a to b, record b names at least the ledger length that a names. Between two
-- threads a note that is given after a and met before b ensures this
abbrev pub AreHandedOver : List Record → Type 0
AreHandedOver rs = (a b : ℕ) → IsHandOver rs a b → seen_at rs a ≤ seen_at rs b
