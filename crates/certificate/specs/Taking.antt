-- What holds while the records of a file are taken one after another and none of them is kept.
use Rattle.std.specs.Prelude.{ℕ, ◌≡◌, ◌⊎◌, ◌+◌, ◌*◌, ◌≤◌, List, length, take, Option, Some, None, Result, Ok}
use Rattle.std.specs.Prelude.{Err, IfSome}
use Rattle.ompt_events.specs.declared.records.Record.{Record}
use Rattle.ompt_events.specs.Traces.{TraceView}
use Rattle.lines.specs.Limits.{max_line}
use Rattle.lines.specs.RecordLines.{IsSaid, header_says, line_says}
use Rattle.lines.specs.declared.cause.ReadCause.{ReadCause}
use Rattle.lines.specs.declared.cause.ReadCause.TheVariants.{Header}
use Rattle.certificate.specs.declared.taking.Line.{Line}
use Rattle.certificate.specs.declared.taking.Line.TheVariants.{Taken, Refused, End}
use Rattle.certificate.specs.Limits.{max_numbered, newest_version}
use Rattle.certificate.specs.Windows.{LineFeedAt, ShowsFault, ShowsLine}
use Rattle.certificate.specs.Formats.{cut}
use Rattle.certificate.specs.Files.{AreRecordsOf, long_file_says, long_traces, trace_before}
use Rattle.certificate.specs.Keeping.{and_record}
use Rattle.certificate.specs.Reading.{IsBetween, IsLineReached, IsToldIn}

-- ---- what a caller sees

-- all records of the file were taken; if its bytes are known, they stand for these records and this version
pub record HasTakenAll (known : Option (List ℕ)) (has_taken : ℕ → List Record → Type 0) : Type 0 where
  pub trace : TraceView
  pub file : IfSome known (λ bytes. long_file_says bytes ≡ Ok trace)
  pub records : AreRecordsOf trace.version trace.records
  pub taken : has_taken trace.version trace.records

-- no line up to the one of number n has a fault, if the bytes are known
abbrev pub IsFaultlessUpTo : ℕ → Option (List ℕ) → Type 0
IsFaultlessUpTo n known = IfSome known (λ bytes. IsLineReached long_traces (n + 1) bytes)

-- the first lines, this many, stand for the trace, if the bytes are known
abbrev pub FirstLinesSay : ℕ → Option (List ℕ) → TraceView → Type 0
FirstLinesSay count known trace =
    IfSome known (λ bytes. trace_before newest_version (cut bytes).lines count ≡ trace)

-- the records before the line of number n were taken, and then the record of this line was refused; if the
-- bytes are known, the lines up to it stand for all these records
pub record HasTakenUntil (n : ℕ) (known : Option (List ℕ))
    (has_refused : ℕ → List Record → Record → Type 0) : Type 0 where
  pub before : TraceView
  pub event : Record
  pub line : n ≡ length before.records + 2
  pub lines : FirstLinesSay n known (and_record before event)
  pub records : AreRecordsOf before.version (and_record before event).records
  pub refused : has_refused before.version before.records event

-- the fault is reported rightly, if the bytes are known
abbrev pub IsToldOf : Option (List ℕ) → ReadCause → ℕ → Option (List ℕ) → Type 0
IsToldOf known cause n left = IfSome known (λ bytes. IsToldIn long_traces cause n bytes left)

-- ---- what a line shows

-- the window begins with a line of this length
pub record ShowsText (len : ℕ) (window : List ℕ) : Type 0 where
  pub line : LineFeedAt window (Some len)
  pub short : len ≤ max_line
  pub few : length window ≤ 2 * (max_line + 1)

-- why the next line stands for nothing: there is no whole line, or its text has this cause
abbrev pub ShowsNothing : {X : Type 0} → (List ℕ → Result X ReadCause) → ReadCause → List ℕ
    → Option (List ℕ) → Type 0
ShowsNothing says cause window left =
    ShowsFault cause window left
    ⊎ ((len : ℕ) × ShowsText len window × IsSaid (Err cause) (says (take len window)))

-- the next line is the header, of this version
abbrev pub ShowsHeader : ℕ × ℕ → List ℕ → Type 0
ShowsHeader found window =
    ShowsText found.1 window × (header_says newest_version (take found.1 window) ≡ Ok found.0)

-- why there is no header: the input is empty, or the first line is none
abbrev pub ShowsNoHeader : ReadCause → List ℕ → Option (List ℕ) → Type 0
ShowsNoHeader cause window left =
    ShowsNothing (header_says newest_version) cause window left
    ⊎ ((cause ≡ Header) × ShowsLine None window left)

-- the next line stands for this record in a file of the version, or no byte is left
abbrev pub ShowsRecord : ℕ → Option (Record × ℕ) → List ℕ → Option (List ℕ) → Type 0
ShowsRecord version (Some found) window left =
    ShowsText found.1 window × (line_says version (take found.1 window) ≡ Ok found.0)
ShowsRecord version None window left = ShowsLine None window left

-- ---- between two lines

-- the records before the line of number n, one in each line after the header, were taken, and what they leave
-- waits in the window and the source
pub record IsTaking (known : Option (List ℕ)) (n version : ℕ) (window : List ℕ) (left : Option (List ℕ))
    (has_taken : ℕ → List Record → Type 0) : Type 0 where
  pub trace : TraceView
  pub line : n ≡ length trace.records + 2
  pub lines : FirstLinesSay (length trace.records + 1) known trace
  pub of_version : version ≡ trace.version
  pub records : AreRecordsOf trace.version trace.records
  pub numbered : length trace.records ≤ max_numbered
  pub taken : has_taken trace.version trace.records
  pub between : IsBetween long_traces known n trace window left

-- the header was taken, or has a fault
abbrev pub IsBegun : Result ℕ ReadCause → Option (List ℕ) → List ℕ → Option (List ℕ)
    → (ℕ → List Record → Type 0) → Type 0
IsBegun (Ok version) known window left has_taken = IsTaking known 2 version window left has_taken
IsBegun (Err cause) known window left has_taken = IsToldOf known cause 1 left

-- after the line of number n: its record was taken or refused, there was none, or it has a fault
abbrev pub IsTakenOn : Result Line ReadCause → Option (List ℕ) → ℕ → ℕ → List ℕ → Option (List ℕ)
    → (ℕ → List Record → Type 0) → (ℕ → List Record → Record → Type 0) → Type 0
IsTakenOn (Ok Taken) known n version window left has_taken has_refused =
    IsTaking known (n + 1) version window left has_taken
IsTakenOn (Ok Refused) known n version window left has_taken has_refused =
    IsFaultlessUpTo n known × HasTakenUntil n known has_refused
IsTakenOn (Ok End) known n version window left has_taken has_refused = HasTakenAll known has_taken
IsTakenOn (Err cause) known n version window left has_taken has_refused = IsToldOf known cause n left
