-- What a file in the order of time shows of the ledger, and what is kept of its tasks.
use Rattle.std.specs.Prelude.{ℕ, ◌≡◌, ◌<◌, ◌≤◌, List, Some, length, slice_get}
use Rattle.ompt_events.specs.declared.records.Record.{Record}
use Rattle.ompt_events.specs.Records.{suspended_turn}
use Rattle.ompt_events.specs.Places.{at, seen_at}
use Rattle.ompt_events.specs.HappensBefore.{IsFinishing}
use Rattle.ompt_events.specs.Causes.{entries_before, IsBehind}
use Rattle.checker.specs.declared.in_order.Suspension.{Suspension}
use Rattle.checker.specs.Lengths.{AreKnownLengths}
use Rattle.checker.specs.Schedule.{Awaits}

-- the record names no more than this many entries, and makes the next one if it makes any
pub record FitsBehind (rs : List Record) (i entries : ℕ) : Type 0 where
  pub named : seen_at rs i ≤ entries
  pub own : IsFinishing rs i → seen_at rs i ≡ entries

-- the first n records are in such an order, and make this many entries
pub record AreInOrder (rs : List Record) (n entries : ℕ) (known : List ℕ) : Type 0 where
  pub count : entries ≡ entries_before rs n
  pub short : entries ≤ n
  pub fit : (i : ℕ) → i < n → FitsBehind rs i (entries_before rs i)
  pub awaited : (i c : ℕ) → i < n → Awaits rs i c → c < i
  pub is_known : AreKnownLengths rs n known
  pub free : (k : ℕ) → k < n → IsBehind rs k → ⊥

-- what is kept of a task: a record at which it is suspended, and the turn that ends there; or the number of
-- records
abbrev pub AreLastSuspensions : List Record → List ℕ → List Suspension → Type 0
AreLastSuspensions rs tasks lasts =
    (index task : ℕ) (last : Suspension) → slice_get tasks index ≡ Some task
    → slice_get lasts index ≡ Some last → last.place < length rs
    → at suspended_turn rs last.place ≡ Some (task, last.turn)
