-- What a trace file stands for, and which of its lines is the first faulty one. A header that names a later
-- version of the format than the newest one that is read is a faulty line.
use Rattle.std.specs.Prelude.{◌≡◌, ◌≤◌, ◌<◌, ℕ, ◌+◌, ◌==◌, ◌&&◌, ◌||◌, Bool, not, List, [], ◌∷◌, ◌++◌, length}
use Rattle.std.specs.Prelude.{take, drop, Option, Some, None, Result, Ok, Err, is_some, nat_lt, if◌then◌else◌}
use Rattle.std.specs.Prelude.{slice_get, All}
use Rattle.std.specs.Result.{result_ok, result_err, result_unwrap_or}
use Rattle.std.specs.List.{filter_map}
use Rattle.ompt_events.specs.declared.records.Record.{Record}
use Rattle.ompt_events.specs.Records.{made}
use Rattle.ompt_events.specs.Limits.{max_records, max_tasks}
use Rattle.ompt_events.specs.Traces.{FitsIn, IsInRange, IsKnown, TraceView, tasks_in}
use Rattle.lines.specs.declared.cause.ReadCause.{ReadCause}
use Rattle.lines.specs.declared.cause.ReadCause.TheVariants.{Limit}
use Rattle.certificate.specs.declared.faults.ReadFault.{ReadFault}
use Rattle.certificate.specs.Limits.{max_numbered, newest_version}
use Rattle.lines.specs.RecordLines.{line_says, header_says}
use Rattle.certificate.specs.Formats.{Format, cut, line_adds, end_adds, said}

-- whether a file with these records may have one more
abbrev pub Room : Type 0
Room = List Record → Record → Bool

-- whether a trace of these records may have one more
abbrev pub has_room : List Record → Record → Bool
has_room before r = nat_lt (length before) max_records
    && (not (is_some (made r.body)) || nat_lt (tasks_in before) max_tasks)

-- whether there are numbers for the line of one more record and the line past it
abbrev pub has_line_number : List Record → Record → Bool
has_line_number before r = nat_lt (length before) max_numbered

-- the trace before any line: the header gives the version
abbrev pub no_trace : TraceView
no_trace = record { version = 1; records = [] }

-- the trace and one record more, where there is room
abbrev pub with_record_in : Room → TraceView → Result Record ReadCause → Result TraceView ReadCause
with_record_in room before (Err cause) = Err cause
with_record_in room before (Ok r) =
    if room before.records r
    then Ok (record { version = before.version; records = before.records ++ r ∷ [] })
    else Err Limit

-- the same in the room of a trace
abbrev pub with_record : TraceView → Result Record ReadCause → Result TraceView ReadCause
with_record before read = with_record_in has_room before read

-- the trace of the version that a header names, without records
abbrev pub with_header : Result ℕ ReadCause → Result TraceView ReadCause
with_header (Err cause) = Err cause
with_header (Ok version) = Ok (record { version = version; records = [] })

-- the trace after the line of number n, which is not too long, when this one comes before it
abbrev pub text_adds_in : Room → ℕ → ℕ → TraceView → List ℕ → Result TraceView ReadCause
text_adds_in room newest n before line =
    if n == 1 then with_header (header_says newest line)
    else with_record_in room before (line_says before.version line)

-- the same in the room of a trace
abbrev pub text_adds : ℕ → ℕ → TraceView → List ℕ → Result TraceView ReadCause
text_adds newest n before line = text_adds_in has_room newest n before line

-- the format of the trace files of at most the newest version, whose records have this room
abbrev pub traces_in : Room → ℕ → Format TraceView
traces_in room newest = record { first = no_trace; adds = text_adds_in room newest }

-- the same in the room of a trace
abbrev pub traces : ℕ → Format TraceView
traces newest = traces_in has_room newest

-- the trace that a file of at most the newest version stands for, or its first faulty line and the cause
abbrev pub trace_said : ℕ → List ℕ → Result TraceView ReadFault
trace_said newest bytes = said (traces newest) bytes

unfoldable pub file_says_to : ℕ → List ℕ → Result TraceView ReadFault
file_says_to newest bytes = trace_said newest bytes

-- what the bytes are, of a version that the program reads
abbrev pub file_says : List ℕ → Result TraceView ReadFault
file_says bytes = file_says_to newest_version bytes

-- ---- the same, line by line

-- the version that the first of these lines names
abbrev pub file_version : ℕ → List (List ℕ) → ℕ
file_version newest [] = no_trace.version
file_version newest (line ∷ lines) = result_unwrap_or (header_says newest line) no_trace.version

-- the records of the lines that stand for one in a file of this version
abbrev pub records_said : ℕ → List (List ℕ) → List Record
records_said version lines = filter_map (λ line. result_ok (line_says version line)) lines

-- a header, and records in the lines after it
abbrev pub trace_of : ℕ → List (List ℕ) → TraceView
trace_of newest lines = record {
  version = file_version newest lines;
  records = records_said (file_version newest lines) (drop 1 lines);
}

-- the trace of the lines before the one at place k, counted from 0
abbrev pub trace_before : ℕ → List (List ℕ) → ℕ → TraceView
trace_before newest lines k = trace_of newest (take k lines)

-- the cause of the fault at place k: of the line there, or past the last line of the bytes that no line
-- feed ends
abbrev pub line_fault : ℕ → TraceView → ℕ → List ℕ → Option (List ℕ) → Option ReadCause
line_fault newest before k rest (Some line) = result_err (line_adds (traces newest) (k + 1) before line)
line_fault newest before k rest None = result_err (end_adds (k + 1) before rest)

abbrev pub cause_in : ℕ → List (List ℕ) → List ℕ → ℕ → Option ReadCause
cause_in newest lines rest k = line_fault newest (trace_before newest lines k) k rest (slice_get lines k)

-- no line has a fault; the first names the version, and those after it stand for the records of the trace
pub record StandsFor (newest : ℕ) (bytes : List ℕ) (trace : TraceView) : Type 0 where
  pub no_fault : (k : ℕ) → k ≤ length (cut bytes).lines
      → cause_in newest (cut bytes).lines (cut bytes).rest k ≡ None
  pub each : trace ≡ trace_of newest (cut bytes).lines

-- no line before the one of number n has a fault
abbrev pub IsFaultlessBefore : ℕ → ℕ → List ℕ → Type 0
IsFaultlessBefore newest n bytes =
    (k : ℕ) → k + 1 < n → cause_in newest (cut bytes).lines (cut bytes).rest k ≡ None

-- the line has this cause, and no earlier line has any
pub record IsFirstFault (newest : ℕ) (bytes : List ℕ) (fault : ReadFault) : Type 0 where
  pub place : ℕ
  pub line : fault.line ≡ place + 1
  pub within : place ≤ length (cut bytes).lines
  pub has : cause_in newest (cut bytes).lines (cut bytes).rest place ≡ Some fault.cause
  pub earlier : IsFaultlessBefore newest fault.line bytes

-- ---- files of any length

-- the format of the files whose records are not kept, of a version that the program reads: they have no
-- limits but the numbers of lines
abbrev pub long_traces : Format TraceView
long_traces = traces_in has_line_number newest_version

-- the version and the records that the bytes stand for, or their first faulty line and the cause
abbrev pub long_file_says : List ℕ → Result TraceView ReadFault
long_file_says bytes = said long_traces bytes

-- records that a file of this version can have, whatever their number
pub record AreRecordsOf (version : ℕ) (rs : List Record) : Type 0 where
  pub known : IsKnown version
  pub fit : All (FitsIn version) rs
  pub in_range : All IsInRange rs
