-- What contracts see of a thread's buffer.
use Rattle.std.specs.Prelude.{ℕ, ◌≡◌, ◌≤◌, Bool, List, nat_le, if◌then◌else◌, length}
use Rattle.ompt_events.specs.declared.records.Record.{Record}
use Rattle.ompt_events.specs.Limits.{max_records}
use Rattle.callbacks.specs.declared.buffer_fault.BufferFault.{BufferFault}
use Rattle.callbacks.specs.declared.buffer_fault.BufferFault.TheVariants.{Memory, Full}

-- the thread's number, its records in order, and how many more may be pushed without memory
pub record BufferView : Type 0 where
  pub thread : ℕ
  pub records : List Record
  pub spare : ℕ

-- the same thread and records; how much room there is may differ
pub record SameRecords (old new : BufferView) : Type 0 where
  pub thread : new.thread ≡ old.thread
  pub records : new.records ≡ old.records

-- why there is no room for one more record: a buffer holds as many as a trace does
abbrev pub refusal_of : BufferView → BufferFault
refusal_of buffer = if nat_le max_records (length buffer.records) then Full else Memory
