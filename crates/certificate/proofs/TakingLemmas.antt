-- How the records of a file are taken from line to line.
use Rattle.std.proofs.Common.{◌≡◌, ◌≢◌, ℕ, ◌+◌, ◌<◌, ◌≤◌, List, [], ◌∷◌, ◌++◌, length, take, drop, Option}
use Rattle.std.proofs.Common.{Some, None, Result, Ok, Err, arith, refl, sym, ap, ◌∙◌, subst, cond, inl, inr}
use Rattle.std.proofs.Common.{true, false, length-append, length-take}
use Rattle.std.specs.Prelude.{IfSome}
use Rattle.std.specs.Io.KnownBytes.{Keeps, prepend_known}
use Rattle.std.proofs.lemmas.Bool.{le-ltb, lt-ltb}
use Rattle.std.proofs.lemmas.List.Elements.{All-nil, All-push}
use Rattle.ompt_events.specs.declared.records.Record.{Record}
use Rattle.ompt_events.specs.Traces.{FitsIn, IsInRange, TraceView}
use Rattle.lines.specs.Limits.{max_line}
use Rattle.lines.specs.RecordLines.{IsSaid, header_says, line_says}
use Rattle.lines.specs.declared.cause.ReadCause.{ReadCause}
use Rattle.lines.specs.declared.cause.ReadCause.TheVariants.{Memory, Header, Limit}
use Rattle.certificate.specs.Formats.{fault_in, said}
use Rattle.certificate.specs.Files.{AreRecordsOf, has_line_number, long_traces, no_trace, with_header}
use Rattle.certificate.specs.Files.{with_record_in}
use Rattle.certificate.specs.Keeping.{and_record}
use Rattle.certificate.specs.Limits.{max_numbered, newest_version}
use Rattle.certificate.specs.Reading.{HasTextCauses, IsBetween, IsFromLine}
use Rattle.certificate.specs.Taking.{FirstLinesSay, HasTakenAll, HasTakenUntil, IsFaultlessUpTo, IsTaking}
use Rattle.certificate.specs.Taking.{IsToldOf}
use Rattle.certificate.specs.Taking.{ShowsHeader, ShowsRecord, ShowsNoHeader, ShowsNothing, ShowsText}
use Rattle.certificate.specs.Windows.{LineFeedAt, ShowsLine}
use Rattle.lines.proofs.SoundLemmas.{line_says-sound}
use Rattle.certificate.proofs.FileLemmas.{unbroken-before}
use Rattle.certificate.proofs.LawLemmas.{trace_before-line}
use Rattle.certificate.proofs.ReadingLemmas.{IsAfter-memory, IsAfter-no_line, IsAfter-none}
use Rattle.certificate.proofs.ReadingLemmas.{IsAfter-none_first, IsAfter-text_fault, IsAnswerIn-no_window}
use Rattle.certificate.proofs.ReadingLemmas.{IsBetween-keeps, IsBetween-line, parts}
use Rattle.certificate.proofs.TraceLemmas.{header_says-known, text_adds_in-record, traces_in-text_causes}

-- ---- causes

text_causes : HasTextCauses long_traces
text_causes = traces_in-text_causes has_line_number newest_version

-- a cause that is not memory is none in any answer
other : {X Y : Type 0} (e : ReadCause) → ◌≢◌ {A = Result X ReadCause} (Err e) (Err Memory)
    → ◌≢◌ {A = Result Y ReadCause} (Err e) (Err Memory)
other e sure same = let is : e ≡ Memory = cc in sure (ap Err is)

-- the cause of a line is that of its record, and of a header that of what it begins
of_record : (before : TraceView) (line : List ℕ) (e : ReadCause)
    → IsSaid (Err e) (line_says before.version line)
    → IsSaid (Err e) (with_record_in has_line_number before (line_says before.version line))
of_record before line e says =
    λ sure. ap (with_record_in has_line_number before) (says (other e sure))

of_header : (line : List ℕ) (e : ReadCause) → IsSaid (Err e) (header_says newest_version line)
    → IsSaid (Err e) (with_header (header_says newest_version line))
of_header line e says = λ sure. ap with_header (says (other e sure))

-- no memory for the window
pub told-no_window : (known : Option (List ℕ)) → IsToldOf known Memory 1 known
told-no_window known = IsAnswerIn-no_window long_traces known

told-text : (known : Option (List ℕ)) (n : ℕ) (kept : TraceView) (w : List ℕ) (len : ℕ)
    (left : Option (List ℕ)) (e : ReadCause)
    → ShowsText len w → IsSaid (Err e) (long_traces.adds n kept (take len w))
    → IsBetween long_traces known n kept w left → IsToldOf known e n left
told-text known n kept w len left e shows says now =
    IsAfter-text_fault long_traces text_causes known n kept w len left e shows.few shows.line shows.short
    says now

-- ---- the first lines

-- the first lines and the next one stand for what it makes of the trace
lines_more : (known : Option (List ℕ)) (n count : ℕ) (before after : TraceView) (w : List ℕ) (len : ℕ)
    (left : Option (List ℕ))
    → n ≡ count + 1 → LineFeedAt w (Some len) → len ≤ max_line
    → Ok after ≡ long_traces.adds n before (take len w)
    → IsBetween long_traces known n before w left → FirstLinesSay count known before
    → FirstLinesSay n known after
lines_more None n count before after w len left next at short adds now say = tt
lines_more (Some bytes) n count before after w len None next at short adds now say = absurd now
lines_more (Some bytes) n count before after w len (Some l) next at short adds now say =
    trace_before-line has_line_number newest_version n count bytes (take len w) (drop (len + 1) w ++ l) before
    after (unbroken-before w len at) (omega (arith, short, length-take len w))
    (subst (λ (rest : List ℕ). IsFromLine n bytes rest) (parts w l len at) now.1) next say adds

no_lines : (known : Option (List ℕ)) → FirstLinesSay 0 known no_trace
no_lines None = tt
no_lines (Some bytes) = refl

-- ---- the header

no_records : (version : ℕ) (line : List ℕ) → header_says newest_version line ≡ Ok version
    → AreRecordsOf version []
no_records version line says = record {
  known = header_says-known newest_version line version (omega arith) (sym says);
  fit = All-nil (FitsIn version);
  in_range = All-nil IsInRange;
}

pub begun : (known : Option (List ℕ)) (found : ℕ × ℕ) (w w' : List ℕ) (left left' : Option (List ℕ))
    (has_taken : ℕ → List Record → Type 0)
    → Keeps (prepend_known w left) (prepend_known w' left') → ShowsHeader found w' → has_taken found.0 []
    → IsBetween long_traces known 1 no_trace w left
    → IsTaking known 2 found.0 (drop (found.1 + 1) w') left' has_taken
begun known found w w' left left' has_taken keeps shows taken now =
    let first : TraceView = record { version = found.0; records = [] } in
    let adds : Ok first ≡ with_header (header_says newest_version (take found.1 w')) =
    sym (ap with_header shows.1) in
    let here = IsBetween-keeps long_traces known 1 no_trace w w' left left' keeps now in
    record {
      trace = first;
      line = refl;
      lines =
          lines_more known 1 0 no_trace first w' found.1 left' refl shows.0.line shows.0.short adds here
          (no_lines known);
      of_version = refl;
      records = no_records found.0 (take found.1 w') shows.1;
      numbered = omega arith;
      taken = taken;
      between =
          IsBetween-line long_traces known 1 no_trace first w' found.1 left' shows.0.line shows.0.short adds
          here;
    }

-- no memory to begin
pub told-no_begin : (known : Option (List ℕ)) (found : ℕ × ℕ) (w w' : List ℕ) (left left' : Option (List ℕ))
    → Keeps (prepend_known w left) (prepend_known w' left') → ShowsHeader found w'
    → IsBetween long_traces known 1 no_trace w left → IsToldOf known Memory 1 left'
told-no_begin known found w w' left left' keeps shows now =
    IsAfter-memory long_traces known 1 no_trace w' found.1 left' shows.0.line shows.0.few
    (IsBetween-keeps long_traces known 1 no_trace w w' left left' keeps now)

pub told-no_header : (known : Option (List ℕ)) (w w' : List ℕ) (left left' : Option (List ℕ)) (e : ReadCause)
    → Keeps (prepend_known w left) (prepend_known w' left') → ShowsNoHeader e w' left'
    → IsBetween long_traces known 1 no_trace w left → IsToldOf known e 1 left'
told-no_header known w w' left left' e keeps shows before =
    by shows (IsBetween-keeps long_traces known 1 no_trace w w' left left' keeps before)
  where
    by_known : (o : Option (List ℕ))
        → IfSome o (λ bytes. said long_traces bytes ≡ Err (fault_in 1 Header))
        → IsToldOf o Header 1 left'
    by_known None is = tt
    by_known (Some bytes) is = is

    by : ShowsNoHeader e w' left' → IsBetween long_traces known 1 no_trace w' left' → IsToldOf known e 1 left'
    by (inl (inl none)) now = IsAfter-no_line long_traces known 1 no_trace w' left' e none now
    by (inl (inr (len, text, says))) now =
        told-text known 1 no_trace w' len left' e text (of_header (take len w') e says) now
    by (inr (is, none)) now =
        subst (λ cause. IsToldOf known cause 1 left') (sym is)
        (by_known known (IsAfter-none_first long_traces known 1 no_trace w' left' refl none now))

-- ---- a record

not_first : (n count : ℕ) → n ≡ count + 2 → n ≢ 1
not_first n count is = grind arith

-- what a line adds, from what its record does
adds : (n : ℕ) (before : TraceView) (after : Result TraceView ReadCause) (line : List ℕ) (r : Record) → n ≢ 1
    → line_says before.version line ≡ Ok r → after ≡ with_record_in has_line_number before (Ok r)
    → after ≡ long_traces.adds n before line
adds n before after line r later says is =
    is ∙ ap (with_record_in has_line_number before) (sym says)
    ∙ sym (text_adds_in-record has_line_number newest_version n before line later)

-- the next line in the words of the trace
shown : (known : Option (List ℕ)) (n version : ℕ) (found : Record × ℕ) (w w' : List ℕ)
    (left left' : Option (List ℕ)) (has_taken : ℕ → List Record → Type 0)
    → ShowsRecord version (Some found) w' left' → (now : IsTaking known n version w left has_taken)
    → line_says now.trace.version (take found.1 w') ≡ Ok found.0
shown known n version found w w' left left' has_taken shows now =
    subst (λ v. line_says v (take found.1 w') ≡ Ok found.0) now.of_version shows.1

-- the records and the one of the next line
records_more : (trace : TraceView) (line : List ℕ) (r : Record) → line_says trace.version line ≡ Ok r
    → IsInRange r → AreRecordsOf trace.version trace.records
    → AreRecordsOf trace.version (and_record trace r).records
records_more trace line r says in_range records = record {
  known = records.known;
  fit =
      All-push (FitsIn trace.version) trace.records r records.fit
      (line_says-sound trace.version line r (sym says));
  in_range = All-push IsInRange trace.records r records.in_range in_range;
}

-- the trace after the next line, whose record may stand there
record IsNext (known : Option (List ℕ)) (n : ℕ) (after : TraceView) (window : List ℕ)
    (left : Option (List ℕ)) : Type 0 where
  line : n ≡ length after.records + 1
  numbered : length after.records ≤ max_numbered
  lines : FirstLinesSay n known after
  records : AreRecordsOf after.version after.records
  between : IsBetween long_traces known (n + 1) after window left

next_line : (known : Option (List ℕ)) (n version : ℕ) (found : Record × ℕ) (w w' : List ℕ)
    (left left' : Option (List ℕ)) (has_taken : ℕ → List Record → Type 0)
    → Keeps (prepend_known w left) (prepend_known w' left')
    → ShowsRecord version (Some found) w' left' → IsInRange found.0 → n ≤ max_numbered + 1
    → (now : IsTaking known n version w left has_taken)
    → IsNext known n (and_record now.trace found.0) (drop (found.1 + 1) w') left'
next_line known n version found w w' left left' has_taken keeps shows in_range high now =
    let before = now.trace in
    let after = and_record before found.0 in
    let says = shown known n version found w w' left left' has_taken shows now in
    let below : length before.records < max_numbered = omega (arith, now.line) in
    let room : has_line_number before.records found.0 ≡ true = lt-ltb _ _ below in
    let added =
    adds n before (Ok after) (take found.1 w') found.0 (not_first n (length before.records) now.line) says
    (ap (λ b. cond b (Ok after) (Err Limit)) (sym room)) in
    let here = IsBetween-keeps long_traces known n before w w' left left' keeps now.between in
    let longer = length-append before.records (found.0 ∷ []) in
    record {
      line = omega (arith, now.line, longer);
      numbered = omega (arith, below, longer);
      lines =
          lines_more known n (length before.records + 1) before after w' found.1 left'
          (omega (arith, now.line)) shows.0.line shows.0.short added here now.lines;
      records = records_more before (take found.1 w') found.0 says in_range now.records;
      between =
          IsBetween-line long_traces known n before after w' found.1 left' shows.0.line shows.0.short added
          here;
    }

pub taken-on : (known : Option (List ℕ)) (n version : ℕ) (found : Record × ℕ) (w w' : List ℕ)
    (left left' : Option (List ℕ)) (has_taken has_taken' : ℕ → List Record → Type 0)
    → Keeps (prepend_known w left) (prepend_known w' left')
    → ShowsRecord version (Some found) w' left' → IsInRange found.0 → n ≤ max_numbered + 1
    → ((v : ℕ) (rs : List Record) → has_taken v rs → has_taken' v (rs ++ found.0 ∷ []))
    → IsTaking known n version w left has_taken
    → IsTaking known (n + 1) version (drop (found.1 + 1) w') left' has_taken'
taken-on known n version found w w' left left' has_taken has_taken' keeps shows in_range high takes now =
    let next = next_line known n version found w w' left left' has_taken keeps shows in_range high now in
    let after = and_record now.trace found.0 in
    record {
      trace = after;
      line = omega (arith, next.line);
      lines = subst (λ (count : ℕ). FirstLinesSay count known after) next.line next.lines;
      of_version = now.of_version;
      records = next.records;
      numbered = next.numbered;
      taken = takes now.trace.version now.trace.records now.taken;
      between = next.between;
    }

pub refused-on : (known : Option (List ℕ)) (n version : ℕ) (found : Record × ℕ) (w w' : List ℕ)
    (left left' : Option (List ℕ)) (has_taken : ℕ → List Record → Type 0)
    (has_refused' : ℕ → List Record → Record → Type 0)
    → Keeps (prepend_known w left) (prepend_known w' left')
    → ShowsRecord version (Some found) w' left' → IsInRange found.0 → n ≤ max_numbered + 1
    → ((v : ℕ) (rs : List Record) → has_taken v rs → has_refused' v rs found.0)
    → IsTaking known n version w left has_taken
    → IsFaultlessUpTo n known × HasTakenUntil n known has_refused'
refused-on known n version found w w' left left' has_taken has_refused' keeps shows in_range high refuses
    now =
    let next = next_line known n version found w w' left left' has_taken keeps shows in_range high now in (
      by known left' next.between,
      record {
        before = now.trace;
        event = found.0;
        line = now.line;
        lines = next.lines;
        records = next.records;
        refused = refuses now.trace.version now.trace.records now.taken;
      },
    )
  where
    after : TraceView
    after = and_record now.trace found.0

    window : List ℕ
    window = drop (found.1 + 1) w'

    by : (o left : Option (List ℕ)) → IsBetween long_traces o (n + 1) after window left → IsFaultlessUpTo n o
    by None left between = tt
    by (Some bytes) None between = absurd between
    by (Some bytes) (Some l) between =
        record { before = after; rest = window ++ l; begins = between.1; says = between.0 }

-- one record too many
pub told-limit : (known : Option (List ℕ)) (n version : ℕ) (found : Record × ℕ) (w w' : List ℕ)
    (left left' : Option (List ℕ)) (has_taken : ℕ → List Record → Type 0)
    → Keeps (prepend_known w left) (prepend_known w' left')
    → ShowsRecord version (Some found) w' left' → max_numbered + 1 < n
    → IsTaking known n version w left has_taken → IsToldOf known Limit n left'
told-limit known n version found w w' left left' has_taken keeps shows high now =
    let before = now.trace in
    let full : has_line_number before.records found.0 ≡ false =
    le-ltb (length before.records) max_numbered (omega (arith, now.line)) in
    told-text known n before w' found.1 left' Limit shows.0
    (λ sure.
    adds n before (Err Limit) (take found.1 w') found.0 (not_first n (length before.records) now.line)
    (shown known n version found w w' left left' has_taken shows now)
    (ap (λ b. cond b (Ok (and_record before found.0)) (Err Limit)) (sym full)))
    (IsBetween-keeps long_traces known n before w w' left left' keeps now.between)

-- no memory to take the record
pub told-no_memory : (known : Option (List ℕ)) (n version : ℕ) (found : Record × ℕ) (w w' : List ℕ)
    (left left' : Option (List ℕ)) (has_taken : ℕ → List Record → Type 0)
    → Keeps (prepend_known w left) (prepend_known w' left')
    → ShowsRecord version (Some found) w' left' → IsTaking known n version w left has_taken
    → IsToldOf known Memory n left'
told-no_memory known n version found w w' left left' has_taken keeps shows now =
    IsAfter-memory long_traces known n now.trace w' found.1 left' shows.0.line shows.0.few
    (IsBetween-keeps long_traces known n now.trace w w' left left' keeps now.between)

pub told-nothing : (known : Option (List ℕ)) (n version : ℕ) (w w' : List ℕ) (left left' : Option (List ℕ))
    (has_taken : ℕ → List Record → Type 0) (e : ReadCause)
    → Keeps (prepend_known w left) (prepend_known w' left') → ShowsNothing (line_says version) e w' left'
    → IsTaking known n version w left has_taken → IsToldOf known e n left'
told-nothing known n version w w' left left' has_taken e keeps shows now =
    by (subst (λ v. ShowsNothing (line_says v) e w' left') now.of_version shows)
    (IsBetween-keeps long_traces known n now.trace w w' left left' keeps now.between)
  where
    later : n ≢ 1
    later = not_first n (length now.trace.records) now.line

    by : ShowsNothing (line_says now.trace.version) e w' left'
        → IsBetween long_traces known n now.trace w' left' → IsToldOf known e n left'
    by (inl none) between = IsAfter-no_line long_traces known n now.trace w' left' e none between
    by (inr (len, text, says)) between =
        told-text known n now.trace w' len left' e text
        (λ sure.
        of_record now.trace (take len w') e says sure
        ∙ sym (text_adds_in-record has_line_number newest_version n now.trace (take len w') later))
        between

pub taken-all : (known : Option (List ℕ)) (n version : ℕ) (w w' : List ℕ) (left left' : Option (List ℕ))
    (has_taken : ℕ → List Record → Type 0)
    → Keeps (prepend_known w left) (prepend_known w' left') → ShowsLine None w' left'
    → IsTaking known n version w left has_taken → HasTakenAll known has_taken
taken-all known n version w w' left left' has_taken keeps shows now = record {
  trace = now.trace;
  file =
      IsAfter-none long_traces known n now.trace w' left'
      (not_first n (length now.trace.records) now.line) shows
      (IsBetween-keeps long_traces known n now.trace w w' left left' keeps now.between);
  records = now.records;
  taken = now.taken;
}
