-- What an audit record by record keeps of the records so far, and what it claims of a file.
use Rattle.std.specs.Prelude.{◌≡◌, ◌<◌, ◌≤◌, ◌+◌, ◌++◌, ◌∷◌, ◌⊎◌, [], ℕ, List, length, take, Option, Some}
use Rattle.std.specs.Prelude.{None, IfSome, Ok, ⊤}
use Rattle.std.specs.Io.KnownBytes.{Appends, Keeps}
use Rattle.ompt_events.specs.declared.records.Record.{Record}
use Rattle.ompt_events.specs.Places.{places}
use Rattle.ompt_events.specs.Traces.{TraceView}
use Rattle.certificate.specs.Files.{AreRecordsOf, long_file_says, long_traces}
use Rattle.certificate.specs.Keeping.{and_record}
use Rattle.certificate.specs.Limits.{max_numbered}
use Rattle.certificate.specs.Reading.{IsToldIn}
use Rattle.certificate.specs.Taking.{FirstLinesSay, HasTakenUntil, IsFaultlessUpTo}
use Rattle.checker.specs.Verdicts.{IsVerdict}
use Rattle.checker.specs.declared.verdict.Verdict.TheVariants as verdict
use Rattle.online.specs.Missed.{EndsTooEarly, StartsTooEarly}
use Rattle.online.specs.Watches.{HasRefused, HasRefusedStart, HasWatched}
use Rattle.online.specs.declared.watch.Watch.{Watch}
use Rattle.online.specs.declared.watch.Test.{Test}
use Rattle.online.specs.declared.watch.Test.TheVariants.{End, Predecessors, Waits}
use Rattle.taskaudit.specs.declared.watching.Missed.{Missed}
use Rattle.taskaudit.specs.declared.watching.Watching.{Watching}
use Rattle.taskaudit.specs.declared.work.AuditFault.{AuditFault}
use Rattle.taskaudit.specs.declared.work.AuditFault.TheVariants.{Read, Undecided, Write}
use Rattle.taskaudit.specs.declared.work.Outcome.{Outcome}
use Rattle.taskaudit.specs.declared.work.Outcome.TheVariants.{Yes, No, Malformed}
use Rattle.taskaudit.specs.declared.work.Printed.TheVariants.{Report}
use Rattle.taskaudit.specs.Audits.{Leaves, Prints}
use Rattle.taskaudit.specs.Headline.{IsSynchronised}
use Rattle.taskaudit.specs.Reports.{AreCounts, no_text, precedes_text, yes_text}

-- the bytes, where they are known, are a file for the trace, however many records it has
abbrev pub AreLongFile : Option (List ℕ) → TraceView → Type 0
AreLongFile bytes trace = IfSome bytes (λ known. long_file_says known ≡ Ok trace)

-- the records so far passed all tests, and are counted
pub record IsWatching (rs : List Record) (w : Watching) : Type 0 where
  pub watched : HasWatched rs w.watch
  pub count : w.count ≡ length rs
  pub few : w.count ≤ max_numbered
  pub counts : AreCounts rs w.counts
  pub none : w.missed ≡ None

-- one record more is counted, and what is watched stays
pub record CountsOne (old new : Watching) (r : Record) : Type 0 where
  pub watch : new.watch ≡ old.watch
  pub count : new.count ≡ old.count + 1
  pub few : old.count < max_numbered
  pub counts : (rs : List Record) → AreCounts rs old.counts → AreCounts (rs ++ r ∷ []) new.counts

-- the record is too early for the task: it ends a region that waits for the task, or it starts this task, or
-- completes this taskwait, of which the task is a predecessor
abbrev pub IsTooEarly : List Record → Record → Option ℕ → ℕ → Type 0
IsTooEarly rs r None task = EndsTooEarly rs r task
IsTooEarly rs r (Some dependent) task = StartsTooEarly rs r dependent task

-- the report of that
abbrev pub early_text : Option ℕ → List Record → ℕ → ℕ → List ℕ
early_text None rs i task = no_text rs i task
early_text (Some dependent) rs i task = precedes_text rs i task dependent

-- what the watch keeps of the records where it refused the next one by this test
abbrev pub HasFailed : Option Test → List Record → Record → Watch → Type 0
HasFailed (Some Waits) rs r w = HasRefused rs r w
HasFailed (Some Predecessors) rs r w = HasRefusedStart rs r w
HasFailed failed rs r w = ⊤

-- the task is missed at the record, which stands there
pub record IsMissedHere (rs : List Record) (r : Record) (m : Missed) : Type 0 where
  pub thread : m.thread ≡ r.thread
  pub seq : m.seq ≡ r.seq
  pub task : IsTooEarly rs r m.dependent m.task

-- if one is known, a task is missed at this record behind the others
abbrev pub IsMissedBy : List Record → Record → Watching → Type 0
IsMissedBy rs r w = (m : Missed) → w.missed ≡ Some m → IsMissedHere rs r m

-- the bytes that were read, where they are known, are a file for a trace, of which each record was taken
pub record IsWholeTaken (bytes : Option (List ℕ)) (w : Watching) : Type 0 where
  pub trace : TraceView
  pub records : AreRecordsOf trace.version trace.records
  pub file : AreLongFile bytes trace
  pub taken : IsWatching trace.records w

-- no line of the bytes has a fault up to this one, whose record was refused, and those before it were taken
pub record StopsAt (bytes : Option (List ℕ)) (line : ℕ) (w : Watching) : Type 0 where
  pub high : 2 ≤ line
  pub faultless : IsFaultlessUpTo line bytes
  pub until : HasTakenUntil line bytes (λ version rs event. IsMissedBy rs event w)

-- ---- what is claimed

-- the bytes are a file for a trace, whose verdict is yes, with the order of the file, and the text is the
-- report of that
pub record IsYesOf (bytes : Option (List ℕ)) (text : List ℕ) : Type 0 where
  pub trace : TraceView
  pub records : AreRecordsOf trace.version trace.records
  pub file : AreLongFile bytes trace
  pub right : IsVerdict trace.records (verdict.Yes (places trace.records))
  pub kept : IsSynchronised trace.records
  pub report : text ≡ yes_text trace.records

-- the first lines of the bytes stand for records, the last of which is too early for a task, and the text is
-- the report of that
pub record IsNoOf (bytes : Option (List ℕ)) (text : List ℕ) : Type 0 where
  pub before : TraceView
  pub event : Record
  pub dependent : Option ℕ
  pub task : ℕ
  pub lines : FirstLinesSay (length before.records + 2) bytes (and_record before event)
  pub records : AreRecordsOf before.version (and_record before event).records
  pub missed : IsTooEarly before.records event dependent task
  pub report : text ≡ early_text dependent (and_record before event).records (length before.records) task

-- the report of a yes or of a no was written, and nothing else
abbrev pub Watches : Option (List ℕ) → Option (List ℕ) → Option (List ℕ) → Outcome → Type 0
Watches bytes old new Yes = (text : List ℕ) × IsYesOf bytes text × Appends old new text
Watches bytes old new No = (text : List ℕ) × IsNoOf bytes text × Appends old new text
Watches bytes old new Malformed = ⊥

-- such a report was written up to somewhere
abbrev pub BreaksOffWatch : Option (List ℕ) → Option (List ℕ) → Option (List ℕ) → Type 0
BreaksOffWatch bytes old new =
    (text : List ℕ) × (IsYesOf bytes text ⊎ IsNoOf bytes text) × (count : ℕ)
    × Appends old new (take count text)

-- why there is no verdict: no line up to this one has a fault, and the records of those before it were taken,
-- but not its own; or all of the file is read, and the line is that past its end
pub data IsUndecided (bytes : Option (List ℕ)) (line : ℕ) (test : Test) : Type 0 where
  at_a_record : 2 ≤ line → IsFaultlessUpTo line bytes → HasTakenUntil line bytes (λ version rs event. ⊤)
      → IsUndecided bytes line test
  at_the_end : (trace : TraceView) → AreLongFile bytes trace → line ≡ length trace.records + 2 → test ≡ End
      → IsUndecided bytes line test

-- what a fault leaves: nothing where there is no verdict, and else what it leaves of an audit, or a part of
-- the report
abbrev pub LeavesWatch : Option (List ℕ) → Option (List ℕ) → Option (List ℕ) → AuditFault → Type 0
LeavesWatch bytes old new (Undecided line test) = IsUndecided bytes line test × Keeps old new
LeavesWatch bytes old new (Write f) = BreaksOffWatch bytes old new
LeavesWatch bytes old new fault = Leaves (Prints Report) bytes old new fault

-- a fault of the input is the first one of a file of any length, or one of the source or of memory while the
-- line was read; left is what the source has left
abbrev pub IsLongReadRightly : Option (List ℕ) → Option (List ℕ) → AuditFault → Type 0
IsLongReadRightly bytes left (Read f) = IfSome bytes (λ known. IsToldIn long_traces f.cause f.line known left)
IsLongReadRightly bytes left _ = ⊤
