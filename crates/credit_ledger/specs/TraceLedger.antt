-- The ledger while the entries of a trace are put into it.
use Rattle.std.specs.Prelude.{◌≡◌, ℕ, List, Some, length, slice_get}
use Rattle.ompt_events.specs.declared.records.Record.{Record}
use Rattle.credit_ledger.specs.declared.entry.Entry.{Entry}
use Rattle.credit_ledger.specs.TraceEntries.{IsEntryAt}

-- the first n entries of the trace
pub record AreEntered (rs : List Record) (n : ℕ) (entries : List Entry) : Type 0 where
  pub long : length entries ≡ n
  pub made : (index : ℕ) (entry : Entry) → slice_get entries index ≡ Some entry
      → (i : ℕ) × IsEntryAt rs i index entry
