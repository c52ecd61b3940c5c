-- What closed recorders leave: the entries of their ledger, and the records of each thread.
use Rattle.std.specs.Prelude.{ℕ, ◌≡◌, ◌≤◌, ⊤, List, [], ◌∷◌, length, All}
use Rattle.std.specs.List.Sorted.{IsNonDecreasingBy}
use Rattle.ompt_events.specs.declared.records.Record.{Record}
use Rattle.ompt_events.specs.Limits.{max_records}
use Rattle.credit_ledger.specs.declared.entry.Entry.{Entry}
use Rattle.credit_ledger.specs.declared.shared.Seat.{Seat}
use Rattle.credit_ledger.specs.Places.{seat_id, view_of}
use Rattle.callbacks.specs.Buffers.{BufferView}
use Rattle.callbacks.specs.Logs.{AreOrderly, AreRecorded, known_of}
use Rattle.callbacks.specs.Recorders.{RecorderView, HaveEntries, IsBacked}

-- the view of closed recorders
pub record ClosedView : Type 0 where
  pub entries : List Entry
  pub buffers : List BufferView

-- the number of a buffer's thread, and its records
abbrev pub thread_of : BufferView → ℕ × List Record
thread_of b = (b.thread, b.records)

-- the same for a recorder that is not closed yet
abbrev pub recorded_by : RecorderView → ℕ × List Record
recorded_by r = (r.thread, r.records)

-- the recorder's seat had made no call when it became the recorder's, and has taken in no other seat
abbrev pub HasUnusedSeat : RecorderView → Type 0
HasUnusedSeat r = (r.before ≡ []) × (r.seat.claims ≡ [])

-- the buffer's records are at most 2^22 that one recorder made, in their order; none names a greater length
-- than that of the ledger, and the entry that a finishing record makes is at the index that the record
-- names
pub record IsBuffer (entries : List Entry) (b : BufferView) : Type 0 where
  pub few : length b.records ≤ max_records
  pub orderly : AreOrderly b.thread b.records
  pub known : known_of b.records ≤ length entries
  pub entered : HaveEntries b.records entries

-- each buffer satisfies this, and they are sorted by thread number
pub record AreClosed (closed : ClosedView) : Type 0 where
  pub buffers : All (IsBuffer closed.entries) closed.buffers
  pub sorted : IsNonDecreasingBy (λ (b : BufferView). b.thread) closed.buffers

-- the seat and the buffer are those of the recorder, and the invariant of a recorder holds for them
pub record IsPart (r : RecorderView) (seat : Seat) (b : BufferView) : Type 0 where
  pub ledger : seat_id seat ≡ r.ledger
  pub seat_is : view_of seat ≡ r.seat
  pub thread_is : b.thread ≡ r.thread
  pub records_are : b.records ≡ r.records
  pub recorded : AreRecorded r.thread r.records r.known
  pub backed : IsBacked r.before r.records r.known r.seat

-- the seats and the buffers of the recorders, in the order of the recorders
abbrev pub AreParts : List RecorderView → List Seat → List BufferView → Type 0
AreParts [] [] [] = ⊤
AreParts (r ∷ recorders) (seat ∷ seats) (b ∷ buffers) = IsPart r seat b × AreParts recorders seats buffers
AreParts [] [] (b ∷ buffers) = ⊥
AreParts [] (seat ∷ seats) buffers = ⊥
AreParts (r ∷ recorders) [] buffers = ⊥
AreParts (r ∷ recorders) (seat ∷ seats) [] = ⊥
