-- Definitions for private steps.
use Rattle.std.specs.Prelude.{ℕ, ◌≡◌, ◌≢◌, ◌==◌, ◌<◌, ◌≤◌, ◌+◌, ◌-◌, ◌↔◌, ◌⊎◌, ◌&&◌, ◌++◌, ◌∷◌, ⊤, Bool}
use Rattle.std.specs.Prelude.{true, false}
use Rattle.std.specs.Prelude.{List, [], Option, Some, None, option_map, option_and_then, slice_get}
use Rattle.std.specs.Prelude.{slice_index, set}
use Rattle.std.specs.Prelude.{length, take, map, IfSome, All, Contains, not, nat_eq, nat_lt, nat_le}
use Rattle.std.specs.Prelude.{if◌then◌else◌, zero, suc}
use Rattle.std.specs.List.{flat_map, IsDistinct}
use Rattle.std.specs.Option.{option_map_or}
use Rattle.std.specs.Global.{Vec}
use Rattle.atomic_table.specs.Seated.{TableId}
use Rattle.ompt_events.specs.States.{is_task}
use Rattle.ompt_events.specs.declared.records.Record.{Record}
use Rattle.ompt_events.specs.declared.records.Body.{Body}
use Rattle.ompt_events.specs.declared.records.Body.TheVariants.{ParallelBegin, ParallelEnd, ImplicitTask}
use Rattle.ompt_events.specs.declared.records.Body.TheVariants.{TaskSchedule}
use Rattle.scripts.specs.declared.script.Step.{Step}
use Rattle.scripts.specs.Scripts.{ScriptView, IsScript, step_count}
use Rattle.task_states.specs.Rows.{row_at}
use Rattle.credit_ledger.specs.declared.entry.Entry.{Entry}
use Rattle.callbacks.specs.declared.fault.CallFault.{CallFault}
use Rattle.callbacks.specs.declared.fault.CallFault.TheVariants as call
use Rattle.callbacks.specs.Tasks.{TaskView}
use Rattle.callbacks.specs.Calls.{ledger_refusal}
use Rattle.credit_ledger.specs.declared.share.Half.{Half}
use Rattle.credit_ledger.specs.Entries.{entry_fault}
use Rattle.credit_ledger.specs.declared.view.Call.TheVariants.{Enter, Look}
use Rattle.credit_ledger.specs.declared.view.Claim.{Claim}
use Rattle.credit_ledger.specs.declared.shared.Seat.{Seat}
use Rattle.credit_ledger.specs.declared.view.Step as seat_step
use Rattle.credit_ledger.specs.declared.view.View.{View}
use Rattle.credit_ledger.specs.Places.{seat_id, view_of}
use Rattle.credit_ledger.specs.Histories.{entries_after}
use Rattle.credit_ledger.specs.Seats.{AreAll, Extends, StartsWith, seat_calls, told_of}
use Rattle.callbacks.specs.Closed.{HasUnusedSeat}
use Rattle.callbacks.specs.Recorders.{RecorderView, NoteView, IsRefusedByLedger, recorded, entry_by}
use Rattle.callbacks.specs.Recorders.{entries_of}
use Rattle.packed_trace.specs.Named.{subject, object}
use Rattle.scripts.specs.RunCalls.{first_given, second_given, recorded_body}
use Rattle.scripts.specs.RunCalls.{first_left, second_left, call_refusal, reads_ledger}
use Rattle.scripts.specs.HandOvers.{is_use, is_reader, IsNextUse, ComesAfter}
use Rattle.scripts.specs.Progress.{progress_to, refused_at, value, without_seen, own_records}
use Rattle.scripts.specs.Runs.{line_of_fault}
use Rattle.scripts.specs.declared.run_fault.Stop.{Stop}
use Rattle.scripts.specs.declared.run_fault.Stop.TheVariants.{Refused, Ended}
use Rattle.scripts.specs.declared.board.Awaited.{Awaited}
use Rattle.scripts.specs.declared.uses.Use.{Use}
use Rattle.scripts.specs.declared.uses.Uses.{Uses}
use Rattle.scripts.specs.declared.run_fault.RunFault.{RunFault}
use Rattle.scripts.specs.declared.run_fault.RunFault.TheVariants.{Memory, Thread, Call}

-- ---- the seat of a recorder

-- what no call changes: the calls that the seat had made before, its shares of the right to enter, and what
-- it has taken in
abbrev pub fixed_of : RecorderView → List seat_step.Step × (List (List Half) × List Claim)
fixed_of r = (r.before, (r.seat.shares, r.seat.claims))

-- the same of a seat that was unused, with these shares
abbrev pub unused_with : List (List Half) → List seat_step.Step × (List (List Half) × List Claim)
unused_with shares = ([], (shares, []))

-- ---- the seats of the threads

-- what the seats of the threads know, by the number of the thread; none of a thread without a step
abbrev pub views_of : List (Option Seat) → List (Option View)
views_of seats = map (option_map view_of) seats

abbrev pub seat_of : List (Option View) → ℕ → Option View
seat_of seats thread = option_and_then (λ o. o) (slice_get seats thread)

-- the shares that they have of the right to enter
abbrev pub shares_in : List (Option View) → List (List Half)
shares_in seats = flat_map (λ o. option_map_or (λ (v : View). v.shares) o []) seats

-- it has seen nothing, has made no call, and has taken in no other one
pub record IsNewSeat (v : View) : Type 0 where
  pub seen : v.seen ≡ []
  pub own : v.own ≡ []
  pub claims : v.claims ≡ []

-- these are new seats, one for each thread that has a place, which have all shares of the right to enter
pub record AreSeats (threads : List (Vec ℕ)) (seats : List (Option View)) : Type 0 where
  pub few : length seats ≤ 256
  pub without : (thread : ℕ) → seat_of seats thread ≡ None → row_at threads thread ≡ []
  pub new : (thread : ℕ) (v : View) → seat_of seats thread ≡ Some v → IsNewSeat v
  pub shares : AreAll (shares_in seats)

-- all are of the ledger
abbrev pub AreOfLedger : TableId → List (Option Seat) → Type 0
AreOfLedger ledger seats = All (λ (o : Option Seat). IfSome o (λ seat. seat_id seat ≡ ledger)) seats

-- ---- what a seat knows

-- the history ends with a call of the seat
pub record EndsWithCall (seat : ℕ) (history : List seat_step.Step) : Type 0 where
  pub before : List seat_step.Step
  pub call : seat_step.Step
  pub is : history ≡ before ++ call ∷ []
  pub of_seat : call.seat ≡ seat

-- in what was seen the seat has made so many calls at some moment, when it made the last of them, or none at
-- all; and there were at least so many entries then
pub record HasKnown (seen : List seat_step.Step) (seat count known : ℕ) : Type 0 where
  pub moment : List seat_step.Step
  pub begins : StartsWith seen moment
  pub calls : length (seat_calls seat moment) ≡ count
  pub ends : (moment ≡ []) ⊎ EndsWithCall seat moment
  pub low : known ≤ length (entries_after moment)

-- in what was seen the seat has made at least so many calls at some moment, and there were at most so many
-- entries then
pub record IsKnownTo (seen : List seat_step.Step) (seat count known : ℕ) : Type 0 where
  pub moment : List seat_step.Step
  pub begins : StartsWith seen moment
  pub calls : count ≤ length (seat_calls seat moment)
  pub high : length (entries_after moment) ≤ known

-- ---- one call

-- the kind of a call
abbrev pub is_parallel : Body → Bool
is_parallel (ParallelBegin requested task parallel) = true
is_parallel (ParallelEnd task parallel) = true
is_parallel _ = false

abbrev pub is_implicit_task : Body → Bool
is_implicit_task (ImplicitTask endpoint actual index given parallel task) = true
is_implicit_task _ = false

abbrev pub is_schedule : Body → Bool
is_schedule (TaskSchedule status turns prior next claimed) = true
is_schedule _ = false

abbrev pub id_of : Option TaskView → Option ℕ
id_of given = option_map (λ (t : TaskView). t.id) given

-- the values are those of the tasks that the call is given
pub record AreGiven (body : Body) (first second : Option TaskView) : Type 0 where
  pub first_is : id_of first ≡ first_given body
  pub second_is : id_of second ≡ second_given body

-- what a call does to the recorder's seat, and what its record names: the length that the recorder knew, if
-- the call does not use the ledger; else the seat made one call on it, and this is the reply
pub data HasCalled (old : RecorderView) (seen : ℕ) (new : RecorderView) : Bool → Type 0 where
  alone : new.seat ≡ old.seat → seen ≡ old.known → new.known ≡ seen → HasCalled old seen new false
  looked : Extends old.seat Look seen new.seat → new.known ≡ seen → HasCalled old seen new true
  entered : (entry : Entry) → Extends old.seat (Enter entry) seen new.seat → new.known ≤ seen + 1
      → HasCalled old seen new true

-- the call was accepted: the recorder has its record and the same seat, and this is left of the values
pub record IsCalled (old : RecorderView) (body : Body) (first second : Option TaskView)
    (new : RecorderView) (first_after second_after : Option TaskView) : Type 0 where
  pub accepted : call_refusal old body first second ≡ None
  pub seen : ℕ
  pub recorded_is : new ≡ recorded old seen new.seat (recorded_body body first second)
  pub fixed : fixed_of new ≡ fixed_of old
  pub seat : HasCalled old seen new (reads_ledger body)
  pub first_is : first_after ≡ first_left old.thread body first
  pub second_is : second_after ≡ second_left body first second

-- the call failed: its recorder refuses it, or the ledger the entry of its record, or out of memory
pub data IsCallFault (old : RecorderView) (found : Option CallFault) (told : Body) (new : RecorderView)
    : CallFault → Type 0 where
  refused : (fault : CallFault) → new ≡ old → found ≡ Some fault → IsCallFault old found told new fault
  out_of_memory : new ≡ old → IsCallFault old found told new call.Memory
  in_ledger : (fault : CallFault) (entry : Entry) → found ≡ None → entry_by old.thread told ≡ Some entry
      → IsRefusedByLedger old entry new fault → IsCallFault old found told new fault

-- ---- the values of tasks

-- the task's value is that after the first steps of the script
abbrev pub IsValueAfter : ScriptView → ℕ → TaskView → Type 0
IsValueAfter script n t = (progress_to script n).values t.id ≡ Some t

-- a task was taken for a step: it is the one that the step is given, as the last step left it that named it
-- before; or the step is given none
abbrev pub IsTaken : Option ℕ → Option ℕ → Option (ℕ × TaskView) → Type 0
IsTaken given since None = given ≡ None
IsTaken given since (Some held) = (given ≡ Some held.1.id) × (since ≡ Some held.0)

-- no step from this number on, and before the place, names the task; the step before does, or none does
pub record IsUnusedSince (steps : List Step) (task since at : ℕ) : Type 0 where
  pub up_to : since ≤ at
  pub unnamed : (i : ℕ) → since ≤ i → i < at → is_use steps task i ≡ false
  pub last : 0 < since → is_use steps task (since - 1) ≡ true

-- the use of a task by the step at this place, as the first n steps tell it: no step names the task between
-- the last one that is noted and this; and if the next one that names it is among them, its thread is noted
pub record IsUseOf (steps : List Step) (n at : ℕ) (named : Option ℕ) (used : Option Use) : Type 0 where
  pub since : (task : ℕ) (u : Use) → named ≡ Some task → used ≡ Some u → IsUnusedSince steps task u.since at
  pub next : (task k : ℕ) (t : Step) (u : Use) → named ≡ Some task → used ≡ Some u
      → IsNextUse steps task at k → k < n → slice_get steps k ≡ Some t → u.next ≡ Some t.thread

-- the same of both tasks that the step names
pub record IsUsed (steps : List Step) (n at : ℕ) (uses : Uses) : Type 0 where
  pub first : (s : Step) → slice_get steps at ≡ Some s → IsUseOf steps n at (subject s.body) uses.first
  pub second : (s : Step) → slice_get steps at ≡ Some s
      → IsUseOf steps n at (object s.body) uses.second

-- the uses by all steps
abbrev pub AreUses : List Step → ℕ → List Uses → Type 0
AreUses steps n uses = (at : ℕ) (u : Uses) → slice_get uses at ≡ Some u → IsUsed steps n at u

-- the use has the number of the task that is named
abbrev pub IsNumberOf : List ℕ → Option ℕ → Option Use → Type 0
IsNumberOf ids named used =
    (task : ℕ) (u : Use) → named ≡ Some task → used ≡ Some u → slice_get ids u.task ≡ Some task

-- the same of all uses
abbrev pub AreNumbered : List Step → List ℕ → List Uses → Type 0
AreNumbered steps ids uses =
    (at : ℕ) (u : Uses) (s : Step) → slice_get uses at ≡ Some u → slice_get steps at ≡ Some s
    → IsNumberOf ids (subject s.body) u.first × IsNumberOf ids (object s.body) u.second

-- the last uses of the tasks with these ids, before the place
abbrev pub AreLastUses : List Step → ℕ → List ℕ → List ℕ → Type 0
AreLastUses steps at ids since =
    (number id : ℕ) → slice_get ids number ≡ Some id → number < length since
    → IsUnusedSince steps id (slice_index since number) at

-- what is found of a task: its number, the only place of its id among the ids, and how many steps there are
-- up to its last use; nothing where no task is named or its id is none of these
abbrev pub IsFound : List ℕ → List ℕ → Option ℕ → Option (ℕ × ℕ) → Type 0
IsFound ids since None found = found ≡ None
IsFound ids since (Some task) None = (number : ℕ) → number < length since → slice_get ids number ≢ Some task
IsFound ids since (Some task) (Some found) =
    ((number : ℕ) → (found.0 ≡ number) ↔ (slice_get ids number ≡ Some task))
    × (slice_get since found.0 ≡ Some found.1)

-- the numbers of steps after the use of a task
abbrev pub noted : List ℕ → Option ℕ → ℕ → List ℕ
noted since (Some number) now = set since number now
noted since None now = since

-- what is found of a task that a step at this place names: the number of the task, and its last use before
pub record IsTold (steps : List Step) (ids : List ℕ) (at : ℕ) (named : Option ℕ) (used : Option Use)
    : Type 0 where
  pub number : IsNumberOf ids named used
  pub found : (task number : ℕ) → named ≡ Some task → slice_get ids number ≡ Some task
      → (u : Use) × (used ≡ Some u) × (u.task ≡ number)
  pub none : named ≡ None → used ≡ None
  pub since : (task : ℕ) (u : Use) → named ≡ Some task → used ≡ Some u → IsUnusedSince steps task u.since at

-- a use of the task with this number, with the thread of the next step that names the task
abbrev pub next_of : ℕ → ℕ → Use → Use
next_of number thread u = if u.task == number then record u { next = Some thread } else u

abbrev pub with_next : ℕ → ℕ → Uses → Uses
with_next number thread u = record u {
  first = option_map (next_of number thread) u.first;
  second = option_map (next_of number thread) u.second;
}

-- a use by the step at a place, after a later use on this thread was found: where that one is the next use of
-- the same task, its thread is noted
abbrev pub told_use : Option Use → ℕ → ℕ → Use → Use
told_use None thread at u = u
told_use (Some found) thread at u =
    if (found.since == at + 1) && (u.task == found.task) then record u { next = Some thread } else u

abbrev pub told_next : Option Use → ℕ → ℕ → Uses → Uses
told_next found thread at u = record u {
  first = option_map (told_use found thread at) u.first;
  second = option_map (told_use found thread at) u.second;
}

-- the values of the tasks, if they are there, are those after the first steps
abbrev pub AreValuesAfter : ScriptView → ℕ → Option TaskView → Type 0
AreValuesAfter script n (Some t) = IsValueAfter script n t
AreValuesAfter script n None = ⊤

-- ---- the steps of a thread

-- the step at this place is of the thread
abbrev pub IsStepOf : List Step → ℕ → ℕ → Type 0
IsStepOf steps at thread = option_map (λ (s : Step). s.thread) (slice_get steps at) ≡ Some thread

-- the recorder is as it was, but for what it knows of the ledger
pub record IsSameRun (old new : RecorderView) : Type 0 where
  pub ledger : new.ledger ≡ old.ledger
  pub thread : new.thread ≡ old.thread
  pub nests : new.nests ≡ old.nests
  pub records : new.records ≡ old.records
  pub capacity : new.capacity ≡ old.capacity
  pub fixed : fixed_of new ≡ fixed_of old

-- it is the recorder of the same thread, with the same seat
pub record IsSameThread (old new : RecorderView) : Type 0 where
  pub ledger : new.ledger ≡ old.ledger
  pub thread : new.thread ≡ old.thread
  pub fixed : fixed_of new ≡ fixed_of old

-- the step at this place is of the thread, which has so many steps before it
pub record IsPlaced (steps : List Step) (n thread number at : ℕ) : Type 0 where
  pub within : at < n
  pub of_thread : IsStepOf steps at thread
  pub number_is : step_count (take at steps) thread ≡ number

-- the row of each thread has the places of its steps among the first n
pub record ArePlaces (steps : List Step) (n : ℕ) (threads : List (Vec ℕ)) : Type 0 where
  pub counted : (thread : ℕ) → length (row_at threads thread) ≡ step_count (take n steps) thread
  pub placed : (thread number at : ℕ) → slice_get (row_at threads thread) number ≡ Some at
      → IsPlaced steps n thread number at

-- the recorder has made the records of its thread among the first n steps
pub record HasRun (script : ScriptView) (n : ℕ) (r : RecorderView) : Type 0 where
  pub nests : r.nests ≡ script.nests
  pub capacity : r.capacity ≡ script.capacity
  pub records : map without_seen r.records ≡ own_records script n r.thread

-- the recorder is about to make the call of the step at this place, with the values of the tasks that the
-- call is given
pub record IsNext (script : ScriptView) (at : ℕ) (s : Step) (r : RecorderView)
    (first second : Option TaskView) : Type 0 where
  pub rules : IsScript script.steps
  pub there : slice_get script.steps at ≡ Some s
  pub of_thread : s.thread ≡ r.thread
  pub run : HasRun script at r
  pub given : AreGiven s.body first second
  pub first_is : first ≡ value (progress_to script at).values (first_given s.body)
  pub second_is : second ≡ value (progress_to script at).values (second_given s.body)

-- no step of the thread before this place is refused
abbrev pub AreAccepted : ScriptView → ℕ → ℕ → Type 0
AreAccepted script thread n =
    (at : ℕ) (s : Step) → at < n → slice_get script.steps at ≡ Some s → s.thread ≡ thread
    → refused_at script at ≡ None

-- ---- the calls of a thread on the ledger

-- the thread of the last step before this place that names the task, if one does
abbrev pub last_user : List Step → ℕ → ℕ → Option ℕ
last_user steps task zero = None
last_user steps task (suc n) =
    if is_use steps task n then option_map (λ (s : Step). s.thread) (slice_get steps n)
    else last_user steps task n

-- how many notes a thread meets for a task that its call at this place is given: one, if the last step that
-- named the task is of another thread
abbrev pub notes_met : List Step → ℕ → ℕ → Option ℕ → ℕ
notes_met steps at thread given =
    option_map_or (λ task. if is_task thread (last_user steps task at) then 0 else 1) given 0

-- how many calls on the ledger a step makes, with those that meet notes
abbrev pub calls_at : List Step → ℕ → Step → ℕ
calls_at steps at s =
    notes_met steps at s.thread (first_given s.body) + notes_met steps at s.thread (second_given s.body)
    + (if reads_ledger s.body then 1 else 0)

-- how many the thread has made after the first n steps
abbrev pub ledger_count : List Step → ℕ → ℕ → ℕ
ledger_count steps thread zero = 0
ledger_count steps thread (suc n) =
    ledger_count steps thread n
    + option_map_or (λ (s : Step). if s.thread == thread then calls_at steps n s else 0) (slice_get steps n) 0

-- the number of a thread's seat
abbrev pub number_of : List (Option View) → ℕ → ℕ
number_of seats thread = option_map_or (λ (v : View). v.number) (seat_of seats thread) 0

-- the recorder's seat is that of its thread, has made so many calls, and has seen the ledger up to the last
-- of
-- them; the recorder knows no more than that
pub record HasSeat (seats : List (Option View)) (count : ℕ) (r : RecorderView) : Type 0 where
  pub number : r.seat.number ≡ number_of seats r.thread
  pub calls : length r.seat.own ≡ count
  pub alone : seat_calls r.seat.number r.seat.seen ≡ r.seat.own
  pub ends : (r.seat.seen ≡ []) ⊎ EndsWithCall r.seat.number r.seat.seen
  pub low : r.known ≤ length (entries_of r.seat)

-- the recorder has this record of the step at this place, which is one of its thread and is not refused
pub record HasRecordAt (script : ScriptView) (r : RecorderView) (at : ℕ) (q : Record) : Type 0 where
  pub of_thread : IsStepOf script.steps at r.thread
  pub accepted : refused_at script at ≡ None
  pub stands : slice_get r.records (length (own_records script at r.thread)) ≡ Some q

-- another thread's step is known with this length: in what the seat has seen that thread's seat has made
-- all its
-- calls up to the step
abbrev pub IsStepKnown : ScriptView → List (Option View) → List seat_step.Step → ℕ → Step → ℕ → Type 0
IsStepKnown script seats seen at t known =
    IsKnownTo seen (number_of seats t.thread) (ledger_count script.steps t.thread (at + 1)) known

-- what the records of the first n steps name: no more than was known after the step; and, where the last step
-- that named a task of the step is of another thread, at least what was known after that. The same where the
-- step comes after one of another thread, and uses the ledger
pub record HasNamed (script : ScriptView) (seats : List (Option View)) (n : ℕ) (r : RecorderView)
    : Type 0 where
  pub known : (at : ℕ) (q : Record) → at < n → HasRecordAt script r at q
      → HasKnown r.seat.seen r.seat.number (ledger_count script.steps r.thread (at + 1)) q.seen
  pub passed : (task first at : ℕ) (t : Step) (q : Record) → at < n → HasRecordAt script r at q
      → IsNextUse script.steps task first at → slice_get script.steps first ≡ Some t → t.thread ≢ r.thread
      → IsStepKnown script seats r.seat.seen first t q.seen
  pub awaited : (first at : ℕ) (q : Record) → at < n → HasRecordAt script r at q
      → (c : ComesAfter script.steps first at) → is_reader script.steps at ≡ true
      → c.before.thread ≢ r.thread → IsStepKnown script seats r.seat.seen first c.before q.seen

-- the same of a recorder and its seat after the first n steps
pub record IsAware (script : ScriptView) (seats : List (Option View)) (n : ℕ) (r : RecorderView)
    : Type 0 where
  pub seat : HasSeat seats (ledger_count script.steps r.thread n) r
  pub named : HasNamed script seats n r

-- the notes of the tasks of the step at this place are met
pub record HasMet (script : ScriptView) (seats : List (Option View)) (at : ℕ) (s : Step) (r : RecorderView)
    : Type 0 where
  pub seat : HasSeat seats
      (ledger_count script.steps r.thread at + notes_met script.steps at s.thread (first_given s.body)
      + notes_met script.steps at s.thread (second_given s.body)) r
  pub named : HasNamed script seats at r
  pub heard : (task first : ℕ) (t : Step) → IsNextUse script.steps task first at
      → slice_get script.steps first ≡ Some t → t.thread ≢ r.thread
      → IsStepKnown script seats r.seat.seen first t r.known

abbrev pub awaited_at : ℕ → ℕ → Awaited
awaited_at thread at = record { thread = thread; at = at }

-- what was seen has all calls that the thread's seat makes in the first n steps
abbrev pub TellsOf : ScriptView → List (Option View) → ℕ → ℕ → List seat_step.Step → Type 0
TellsOf script seats thread n seen =
    ledger_count script.steps thread n ≤ length (seat_calls (number_of seats thread) seen)

-- a note tells of the step that is awaited, if one is
abbrev pub IsDone : ScriptView → List (Option View) → Option Awaited → Option NoteView → Type 0
IsDone script seats None told = ⊤
IsDone script seats (Some awaited) None = ⊥
IsDone script seats (Some awaited) (Some told) =
    TellsOf script seats awaited.thread (awaited.at + 1) told.seat.seen

-- what the recorder was told last, which its next call on the ledger learns, tells of the step that the one
-- at this place comes after
abbrev pub HasHeard : ScriptView → List (Option View) → ℕ → RecorderView → Type 0
HasHeard script seats at r = (first : ℕ) → (c : ComesAfter script.steps first at)
    → TellsOf script seats c.before.thread (first + 1) r.seat.told

-- a note is heard, if there is one
abbrev pub IsHeard : RecorderView → Option NoteView → RecorderView → Type 0
IsHeard old None new = new ≡ old
IsHeard old (Some note) new = new ≡ record old { seat = told_of old.seat note.seat }

-- a note is met, if there is one
abbrev pub IsMet : RecorderView → Option NoteView → RecorderView → Type 0
IsMet old None new = new ≡ old
IsMet old (Some note) new =
    Extends (told_of old.seat note.seat) Look new.known new.seat × (length (entries_of note.seat) ≤ new.known)

-- first the one note, and then the other
pub record AreMet (old : RecorderView) (first second : Option NoteView) (new : RecorderView) : Type 0 where
  pub middle : RecorderView
  pub first_is : IsMet old first middle
  pub same : IsSameRun old middle
  pub second_is : IsMet middle second new

-- the last of these first steps names the task. There is a note exactly if the next one that names it is of
-- another thread; and in what the note tells, the thread's seat has made all its calls up to the last step
pub record IsNoted (script : ScriptView) (seats : List (Option View)) (since : ℕ) (task : TaskView)
    (note : Option NoteView) : Type 0 where
  pub some : 0 < since
  pub used : is_use script.steps task.id (since - 1) ≡ true
  pub own : (k : ℕ) (t u : Step) → IsNextUse script.steps task.id (since - 1) k
      → slice_get script.steps (since - 1) ≡ Some t → slice_get script.steps k ≡ Some u → note ≡ None
      → u.thread ≡ t.thread
  pub other : (k : ℕ) (t u : Step) (told : NoteView) → IsNextUse script.steps task.id (since - 1) k
      → slice_get script.steps (since - 1) ≡ Some t → slice_get script.steps k ≡ Some u → note ≡ Some told
      → u.thread ≢ t.thread
  pub tells : (t : Step) (told : NoteView) → slice_get script.steps (since - 1) ≡ Some t → note ≡ Some told
      → ledger_count script.steps t.thread since
      ≤ length (seat_calls (number_of seats t.thread) told.seat.seen)

-- the value that the last of these first steps leaves is that of a task which it names, and this is its use
-- of it
pub record IsLeft (script : ScriptView) (since thread : ℕ) (u : Use) (t : TaskView) : Type 0 where
  pub at : ℕ
  pub step : Step
  pub named : Option ℕ
  pub since_is : since ≡ at + 1
  pub is : slice_get script.steps at ≡ Some step
  pub of_thread : step.thread ≡ thread
  pub names : named ≡ Some t.id
  pub used : is_use script.steps t.id at ≡ true
  pub use_is : IsUseOf script.steps (length script.steps) at named (Some u)

abbrev pub AreLeft : ScriptView → ℕ → ℕ → Option Use → Option TaskView → Type 0
AreLeft script since thread used task =
    (u : Use) (t : TaskView) → used ≡ Some u → task ≡ Some t → IsLeft script since thread u t

-- the recorder knows what it knew, and its seat has seen and called the same
pub record HasSeenSame (old new : RecorderView) : Type 0 where
  pub known : new.known ≡ old.known
  pub number : new.seat.number ≡ old.seat.number
  pub own : new.seat.own ≡ old.seat.own
  pub seen : new.seat.seen ≡ old.seat.seen

-- there is a next thread, and it is another one
abbrev pub is_other : Option ℕ → ℕ → Bool
is_other next thread = option_map_or (λ n. not (n == thread)) next false

-- ---- why a run ends

-- the fault of a call on this line
abbrev pub fault_of_call : ℕ → CallFault → RunFault
fault_of_call line call.Memory = Memory
fault_of_call line fault = Call line fault

abbrev pub line_of_stop : Stop → ℕ
line_of_stop (Refused fault) = line_of_fault fault
line_of_stop (Ended line) = line

abbrev pub fault_of_stop : Stop → RunFault
fault_of_stop (Refused fault) = fault
fault_of_stop (Ended line) = Memory

-- the first stop is at an earlier line, or is a refusal at the same line
abbrev pub comes_first : Stop → Stop → Bool
comes_first (Refused fault) other = nat_le (line_of_fault fault) (line_of_stop other)
comes_first (Ended line) other = nat_lt line (line_of_stop other)

-- the one that comes first, if there is one
abbrev pub first_stop : Option Stop → Option Stop → Option Stop
first_stop None other = other
first_stop (Some one) None = Some one
first_stop (Some one) (Some other) = if comes_first one other then Some one else Some other

-- the entry that the record of the step at this place makes
abbrev pub entry_at : ScriptView → ℕ → Option Entry
entry_at script at = option_and_then (λ s. entry_by s.thread (recorded_body s.body
    (value (progress_to script at).values (first_given s.body))
    (value (progress_to script at).values (second_given s.body)))) (slice_get script.steps at)

-- the ledger refuses the entry, by the entries that the recorder's seat has seen
abbrev pub IsLedgerFault : RecorderView → Entry → CallFault → Type 0
IsLedgerFault r entry fault = fault ≡ ledger_refusal (entry_fault (entries_of r.seat) entry)

-- a thread stops before the step at this place: out of memory; or its recorder refuses the call; or the
-- ledger its entry; or the run ends for another thread
pub data IsStopAt (script : ScriptView) (at : ℕ) (r : RecorderView) : Stop → Type 0 where
  without_memory : IsStopAt script at r (Refused Memory)
  by_recorder : (fault : CallFault) → refused_at script at ≡ Some fault
      → IsStopAt script at r (Refused (Call (at + 2) fault))
  by_ledger : (fault : CallFault) (entry : Entry) → fault ≢ call.Memory → refused_at script at ≡ None
      → entry_at script at ≡ Some entry
      → IsLedgerFault r entry fault → IsStopAt script at r (Refused (Call (at + 2) fault))
  by_another : IsStopAt script at r (Ended (at + 2))

-- the end of a thread that took its steps before this place
abbrev pub IsEndAt : ScriptView → ℕ → RecorderView → Option Stop → Type 0
IsEndAt script at r None = length script.steps ≤ at
IsEndAt script at r (Some stop) = IsStopAt script at r stop × IsStepOf script.steps at r.thread

-- what a thread leaves: it took its steps before some place, each of which was accepted, and stopped there.
-- Its recorder got this seat
pub record IsOutcome (ledger : TableId) (script : ScriptView) (seats : List (Option View)) (thread : ℕ)
    (r : RecorderView) (stop : Option Stop) : Type 0 where
  pub of_ledger : r.ledger ≡ ledger
  pub of_thread : r.thread ≡ thread
  pub fixed_is : IfSome (seat_of seats thread) (λ seat. fixed_of r ≡ unused_with seat.shares)
  pub at : ℕ
  pub run : HasRun script at r
  pub accepted : AreAccepted script thread at
  pub aware : stop ≡ None → IsAware script seats (length script.steps) r
  pub ends : IsEndAt script at r stop

-- ---- all threads

-- the place is behind the last step, or not before the first stop
abbrev pub IsBehind : ScriptView → Option Stop → ℕ → Type 0
IsBehind script None at = length script.steps ≤ at
IsBehind script (Some stop) at = line_of_stop stop ≤ at + 2

-- the recorder has recorded the steps of its thread before a place that is behind the first stop, and each of
-- them was accepted
pub record HasStopped (script : ScriptView) (stop : Option Stop) (r : RecorderView) : Type 0 where
  pub at : ℕ
  pub run : HasRun script at r
  pub accepted : AreAccepted script r.thread at
  pub behind : IsBehind script stop at

-- a thread has no step, or one of the recorders is of the thread
abbrev pub IsCared : ScriptView → List RecorderView → ℕ → Type 0
IsCared script recorders thread =
    (step_count script.steps thread ≡ 0)
    ⊎ ((r : RecorderView) × Contains recorders r × (r.thread ≡ thread))

-- one of the recorders stops for this refusal
pub record IsOrigin (script : ScriptView) (recorders : List RecorderView) (line : ℕ)
    (fault : CallFault) : Type 0 where
  pub recorder : RecorderView
  pub among : Contains recorders recorder
  pub at : ℕ
  pub run : HasRun script at recorder
  pub of_thread : IsStepOf script.steps at recorder.thread
  pub stops : IsStopAt script at recorder (Refused (Call line fault))

-- the recorders are of threads below this one, each of another one
pub record HaveThreadsBelow (limit : ℕ) (recorders : List RecorderView) : Type 0 where
  pub below : All (λ (r : RecorderView). r.thread < limit) recorders
  pub apart : IsDistinct nat_eq (map (λ (r : RecorderView). r.thread) recorders)

abbrev pub shares_of : List RecorderView → List (List Half)
shares_of recorders = flat_map (λ (r : RecorderView). r.seat.shares) recorders

-- the threads below this one were run with these seats, up to the first stop
pub record HaveEnded (script : ScriptView) (seats : List (Option View)) (limit : ℕ)
    (recorders : List RecorderView) (stop : Option Stop) : Type 0 where
  pub each : All (HasStopped script stop) recorders
  pub aware : stop ≡ None → All (IsAware script seats (length script.steps)) recorders
  pub cared : (thread : ℕ) → thread < limit → IsCared script recorders thread
  pub threads : HaveThreadsBelow limit recorders
  pub shares : shares_of recorders ≡ shares_in (take limit seats)
  pub unused : All HasUnusedSeat recorders
  pub low : (s : Stop) → stop ≡ Some s → line_of_stop s ≤ length script.steps + 1
  pub origin : (line : ℕ) (fault : CallFault) → stop ≡ Some (Refused (Call line fault))
      → IsOrigin script recorders line fault

-- all threads were run, up to the first stop, by recorders that have all shares of the right to enter
pub record HaveAllEnded (script : ScriptView) (recorders : List RecorderView) (stop : Option Stop)
    : Type 0 where
  pub seats : List (Option View)
  pub each : All (HasStopped script stop) recorders
  pub aware : stop ≡ None → All (IsAware script seats (length script.steps)) recorders
  pub cared : (thread : ℕ) → IsCared script recorders thread
  pub apart : IsDistinct nat_eq (map (λ (r : RecorderView). r.thread) recorders)
  pub shares : AreAll (shares_of recorders)
  pub unused : All HasUnusedSeat recorders
  pub low : (s : Stop) → stop ≡ Some s → line_of_stop s ≤ length script.steps + 1
  pub origin : (line : ℕ) (fault : CallFault) → stop ≡ Some (Refused (Call line fault))
      → IsOrigin script recorders line fault

-- out of memory, or a thread was not started
abbrev pub IsEarly : Option Stop → Type 0
IsEarly stop = (stop ≡ Some (Refused Memory)) ⊎ (stop ≡ Some (Refused Thread))
