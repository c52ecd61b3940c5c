-- Which trace is that of a run of a script, and which call ends a run without one.
use Rattle.std.specs.Prelude.{ℕ, ◌≡◌, ◌<◌, ◌+◌, ◌↔◌, ⊤, List, Contains, IsTrue, length, map, Some, None}
use Rattle.ompt_events.specs.declared.records.Record.{Record}
use Rattle.ompt_events.specs.declared.cause.Cause.TheVariants.{SeqGap, NestedParallel}
use Rattle.ompt_events.specs.declared.cause.Cause.TheVariants.{EntryTwice, LengthAhead, LengthBack}
use Rattle.ompt_events.specs.declared.cause.Cause.TheVariants.{RegionNesting, TargetTask}
use Rattle.ompt_events.specs.Causes.{IsFreeOf, IsMadeAgain}
use Rattle.ompt_events.specs.Traces.{TraceView}
use Rattle.credit_ledger.specs.declared.view.Step.{Step}
use Rattle.credit_ledger.specs.Histories.{IsLegal, entries_after}
use Rattle.credit_ledger.specs.Seats.{seat_calls, is_enter}
use Rattle.scripts.specs.Scripts.{ScriptView}
use Rattle.callbacks.specs.Recorders.{IsWithLooks, ledger_calls}
use Rattle.callbacks.specs.declared.fault.CallFault.{CallFault}
use Rattle.callbacks.specs.Closed.{ClosedView, AreClosed}
use Rattle.callbacks.specs.Gathered.{gathered, HaveOwnThreads, ArePaired, AreHandedOver, version_of}
use Rattle.scripts.specs.Called.{recorded_calls, calls_of}
use Rattle.scripts.specs.HandOvers.{ArePassedOn, AreAwaited}
use Rattle.scripts.specs.Progress.{thread_records, own_records, without_seen, refused_at}
use Rattle.scripts.specs.declared.run_fault.RunFault.{RunFault}
use Rattle.scripts.specs.declared.run_fault.RunFault.TheVariants.{Memory, Thread, Call}

-- a thread of a run, and the number of its seat of the ledger
pub record Seated : Type 0 where
  pub thread : ℕ
  pub seat : ℕ

-- the history of the ledger that the threads share. It is legal. Each thread with a record has a seat of its
-- own, whose calls in it are the calls of the ledger by the thread's records, in their order and with the
-- lengths that these name, and looks. No other seat enters anything.
pub record IsHistoryOf (records : List Record) (history : List Step) : Type 0 where
  pub legal : IsLegal history
  pub seats : List Seated
  pub own : (s t : Seated) → Contains seats s → Contains seats t → (s.thread ≡ t.thread) ↔ (s.seat ≡ t.seat)
  pub each : (r : Record) → Contains records r → (s : Seated) × Contains seats s × (s.thread ≡ r.thread)
  pub calls : (s : Seated) → Contains seats s
      → IsWithLooks (ledger_calls s.seat (thread_records records s.thread)) (seat_calls s.seat history)
  pub enters : (call : Step) → Contains history call → IsTrue (is_enter call.call)
      → (s : Seated) × Contains seats s × (s.seat ≡ call.seat)

-- the trace is gathered from the recorders of a run of the script. No step is refused. The records of each
-- thread are those that the script determines, but for the ledger lengths that they name, and so have the
-- calls of its steps. The lengths and the entries are those of one history of the one ledger, and the
-- finishing records pair off with the entries. The lengths do not fall from a step that names a task to the
-- next one that does, nor from a step to one that comes after it and uses the ledger. It is of version 3
-- where regions may lie inside others, else of version 2
pub record IsRunOf (script : ScriptView) (trace : TraceView) : Type 0 where
  pub version : trace.version ≡ version_of script.nests
  pub accepted : (at : ℕ) → refused_at script at ≡ None
  pub records : (thread : ℕ)
      → map without_seen (thread_records trace.records thread)
      ≡ own_records script (length script.steps) thread
  pub calls : (thread : ℕ)
      → recorded_calls (thread_records trace.records thread) ≡ calls_of script.steps thread
  pub closed : ClosedView
  pub are_closed : AreClosed closed
  pub gathered_from : trace.records ≡ gathered closed.buffers
  pub history : List Step
  pub entered : closed.entries ≡ entries_after history
  pub shared : IsHistoryOf trace.records history
  pub apart : HaveOwnThreads closed.buffers
  pub paired : ArePaired closed
  pub numbered : IsFreeOf trace.records SeqGap
  pub made_once : (i : ℕ) → IsMadeAgain trace.records i → ⊥
  pub outside : IsFreeOf trace.records NestedParallel
  pub nested : IsFreeOf trace.records RegionNesting
  pub once : IsFreeOf trace.records EntryTwice
  pub not_ahead : IsFreeOf trace.records LengthAhead
  pub on_host : IsFreeOf trace.records TargetTask
  pub passed_on : ArePassedOn script.steps trace.records
  pub awaited : AreAwaited script.steps trace.records
  pub handed_over : AreHandedOver trace.records
  pub rising : IsFreeOf trace.records LengthBack

-- the line of a fault; 0 if it has none
abbrev pub line_of_fault : RunFault → ℕ
line_of_fault (Call line fault) = line
line_of_fault Memory = 0
line_of_fault Thread = 0

-- the first step in the order of the script that its recorder refuses is on this line, with this fault; the
-- header is line 1
pub record IsFirstRefusal (script : ScriptView) (line : ℕ) (fault : CallFault) : Type 0 where
  pub at : ℕ
  pub line_is : line ≡ at + 2
  pub refused : refused_at script at ≡ Some fault
  pub first : (earlier : ℕ) → earlier < at → refused_at script earlier ≡ None

-- why a run has no trace; of memory and threads the script says nothing
abbrev pub IsRunFault : ScriptView → RunFault → Type 0
IsRunFault script (Call line fault) = IsFirstRefusal script line fault
IsRunFault script Memory = ⊤
IsRunFault script Thread = ⊤
