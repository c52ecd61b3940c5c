-- What a recorder is: the records of one thread, and a seat of the ledger that threads share.
use Rattle.std.specs.Prelude.{ℕ, ◌≡◌, ◌⊎◌, ◌≤◌, ◌||◌, ◌&&◌, Bool, true, false, List, [], ◌∷◌, ◌++◌, length}
use Rattle.std.specs.Prelude.{Option, None, Some, nat_le, slice_get, option_map, option_and_then}
use Rattle.std.specs.Prelude.{if◌then◌else◌}
use Rattle.std.specs.List.{flat_map}
use Rattle.std.specs.Option.{option_map_or}
use Rattle.atomic_table.specs.Seated.{TableId}
use Rattle.ompt_events.specs.declared.records.Record.{Record}
use Rattle.ompt_events.specs.declared.records.Body.{Body}
use Rattle.ompt_events.specs.declared.records.Body.TheVariants.{TaskSchedule, SyncRegion}
use Rattle.ompt_events.specs.declared.names.Endpoint.{Endpoint}
use Rattle.ompt_events.specs.declared.names.Endpoint.TheVariants.{Begin, End, BeginEnd}
use Rattle.ompt_events.specs.Records.{finish, claim}
use Rattle.credit_ledger.specs.declared.entry.Entry.{Entry}
use Rattle.credit_ledger.specs.declared.view.Call.{Call}
use Rattle.credit_ledger.specs.declared.view.Call.TheVariants.{Enter, Look}
use Rattle.credit_ledger.specs.declared.view.Step.{Step}
use Rattle.credit_ledger.specs.declared.view.View.{View}
use Rattle.credit_ledger.specs.Entries as ledger
use Rattle.credit_ledger.specs.Histories.{entries_after}
use Rattle.credit_ledger.specs.Seats.{Extends, is_enter}
use Rattle.credit_ledger.specs.TraceEntries.{claimed_entry, entry_of}
use Rattle.callbacks.specs.declared.fault.CallFault.{CallFault}
use Rattle.callbacks.specs.Standing.{allows}
use Rattle.callbacks.specs.Logs.{known_from}
use Rattle.callbacks.specs.Calls.{call_fault, refusal, ledger_refusal}
use Rattle.callbacks.specs.Tasks.{TaskView, is_initial_task}

-- the view of a recorder: the thread's number, whether regions may lie inside others, its records, how many
-- records it may have, the ledger length that it knew last, its ledger, the calls that its seat had made
-- before it became the recorder's, and what the seat has seen of the ledger
pub record RecorderView : Type 0 where
  pub thread : ℕ
  pub nests : Bool
  pub records : List Record
  pub capacity : ℕ
  pub known : ℕ
  pub ledger : TableId
  pub before : List Step
  pub seat : View

-- the view of a note: the ledger, and what its seat has seen
pub record NoteView : Type 0 where
  pub ledger : TableId
  pub seat : View

-- the entries that a seat has seen
abbrev pub entries_of : View → List Entry
entries_of seat = entries_after seat.seen

-- the entry that each finishing record made is at the index that it names
abbrev pub HaveEntries : List Record → List Entry → Type 0
HaveEntries own entries =
    (i : ℕ) (r : Record) (entry : Entry) → slice_get own i ≡ Some r → entry_of r ≡ Some entry
    → slice_get entries r.seen ≡ Some entry

-- ---- the calls on the ledger

abbrev pub is_end : Endpoint → Bool
is_end Begin = false
is_end End = true
is_end BeginEnd = true

-- the record names the ledger's length or an index: it is a schedule or a discard, or ends a synchronisation
-- region
abbrev pub uses_ledger : Body → Bool
uses_ledger (TaskSchedule status turns prior next claimed) = true
uses_ledger (SyncRegion kind endpoint parallel task) = is_end endpoint
uses_ledger _ = false

-- the call of the seat with this number, to which the ledger gave the reply that the record names
abbrev pub replied : ℕ → Record → Call → Step
replied number r call = record { seat = number; call = call; reply = r.seen }

-- the call for a record: a finishing record enters its entry; any other schedule, and any other end of a
-- region, looks; no other record has one
abbrev pub ledger_call : ℕ → Record → List Step
ledger_call number r = option_map_or (λ entry. replied number r (Enter entry) ∷ [])
    (entry_of r) (if uses_ledger r.body then replied number r Look ∷ [] else [])

-- those of the thread's records, in their order
abbrev pub ledger_calls : ℕ → List Record → List Step
ledger_calls number own = flat_map (ledger_call number) own

-- these are those calls in their order, and beside them only looks
abbrev pub IsWithLooks : List Step → List Step → Type 0
IsWithLooks calls [] = calls ≡ []
IsWithLooks calls (s ∷ own) =
    ((is_enter s.call ≡ false) × IsWithLooks calls own)
    ⊎ ((rest : List Step) × (calls ≡ s ∷ rest) × IsWithLooks rest own)

-- the thread's seat has seen all that its records name of the ledger; its calls are those that it had made
-- before, and then those of the records and looks
pub record IsBacked (before : List Step) (own : List Record) (known : ℕ) (seat : View) : Type 0 where
  pub seen : known ≤ length (entries_of seat)
  pub entered : HaveEntries own (entries_of seat)
  pub calls : (more : List Step) × (seat.own ≡ before ++ more)
      × IsWithLooks (ledger_calls seat.number own) more

-- ---- one more record

-- the recorder with one more record, which names `seen`; the seat is that after the call on the ledger, if
-- there was one
abbrev pub recorded : RecorderView → ℕ → View → Body → RecorderView
recorded r seen seat body = record {
  thread = r.thread;
  nests = r.nests;
  records = r.records ++ record {
    thread = r.thread;
    nests = r.nests;
    seq = length r.records;
    seen = seen;
    body = body;
  } ∷ [];
  capacity = r.capacity;
  known = known_from seen body;
  ledger = r.ledger;
  before = r.before;
  seat = seat;
}

-- a record of a call that does not use the ledger names the length that the recorder knew last
abbrev pub recorded_alone : RecorderView → Body → RecorderView
recorded_alone r body = recorded r r.known r.seat body

-- the ledger was looked at, and the record names its length
abbrev pub IsObserved : RecorderView → ℕ → Body → RecorderView → Type 0
IsObserved old seen body new = Extends old.seat Look seen new.seat × (new ≡ recorded old seen new.seat body)

-- the entry was put into the ledger, and the record names its index
abbrev pub IsConcluded : RecorderView → Entry → ℕ → Body → RecorderView → Type 0
IsConcluded old entry index body new =
    Extends old.seat (Enter entry) index new.seat × (new ≡ recorded old index new.seat body)

-- the entry that a record with this body makes on the thread
abbrev pub entry_by : ℕ → Body → Option Entry
entry_by thread body = option_and_then (λ f. option_map (claimed_entry thread f) (claim body)) (finish body)

-- the ledger refused the entry: the seat has looked at the ledger, and the recorder is otherwise unchanged
pub record IsRefusedByLedger (old : RecorderView) (entry : Entry) (new : RecorderView)
    (fault : CallFault) : Type 0 where
  pub seen : ℕ
  pub looked : Extends old.seat Look seen new.seat
  pub unchanged : new ≡ record old { seat = new.seat }
  pub fault_is : fault ≡ ledger_refusal (ledger.entry_fault (entries_of new.seat) entry)

-- a call that finishes a task fails: before it uses the ledger, so that nothing is changed, or because the
-- ledger refuses the entry
pub data IsFinishRefused (old : RecorderView) (found : Option CallFault) (entry : Option Entry)
    (new : RecorderView) (fault : CallFault) : Type 0 where
  before : new ≡ old → fault ≡ call_fault found → IsFinishRefused old found entry new fault
  by_ledger : (e : Entry) → found ≡ None → entry ≡ Some e → IsRefusedByLedger old e new fault
      → IsFinishRefused old found entry new fault

-- ---- when a call fails

abbrev pub is_log_full : RecorderView → Bool
is_log_full r = nat_le r.capacity (length r.records)

-- the thread's records show no reason against a record with this body
abbrev pub allowed : RecorderView → Body → Bool
allowed r body = allows r.nests r.records body

-- where no region may lie inside another one, only an initial task begins a parallel region
abbrev pub may_fork : RecorderView → TaskView → Bool
may_fork r t = r.nests || is_initial_task t

-- why a call that would add a record with this body fails before it needs memory; its arguments are whether
-- the tasks allow it, are too deep, and have no room for more
unfoldable pub refusal_at : RecorderView → Bool → Bool → Bool → Body → Option CallFault
refusal_at r may deep full body = refusal (may && allowed r body) deep (full || is_log_full r)
