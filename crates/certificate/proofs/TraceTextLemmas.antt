-- Why a file of the lines of a trace stands for that trace.
use Rattle.std.proofs.Common.{◌≡◌, ℕ, ◌+◌, ◌<◌, ◌≤◌, Bool, true, false, not, cond, ◌||◌, List}
use Rattle.std.proofs.Common.{[], ◌∷◌, ◌++◌, length, map, is_some, Ok, arith, refl, sym, ap}
use Rattle.std.proofs.Common.{◌∙◌, append_assoc, append-nil, length-append}
use Rattle.std.specs.Prelude.{◌==◌, nat_lt, All}
use Rattle.std.specs.List.{AllByRecursion}
use Rattle.std.proofs.lemmas.Bool.{ne_eqb, lt-ltb}
use Rattle.std.proofs.lemmas.List.Sums.{sum_by-cons, sum_by-append}
use Rattle.ompt_events.specs.declared.records.Record.{Record}
use Rattle.ompt_events.specs.Records.{made}
use Rattle.ompt_events.specs.Limits.{max_records, max_tasks}
use Rattle.ompt_events.specs.Traces.{IsKnown, TraceView, tasks_in, IsTrace}
use Rattle.certificate.specs.TraceTexts.{ended_lines}
use Rattle.lines.specs.Limits.{max_line}
use Rattle.lines.specs.RecordLines.{header_says}
use Rattle.certificate.specs.Formats.{Cut, cut, is_long, from_line}
use Rattle.certificate.specs.Files.{has_room, no_trace, traces, trace_said}
use Rattle.certificate.proofs.FileLemmas.{cut-line}
use Rattle.lines.proofs.JsonLemmas.{IsUnbroken}
use Rattle.lines.proofs.JsonLemmas.{unbroken-compact_text}
use Rattle.std.proofs.Common.{get_or, inl, inr}
use Rattle.ompt_events.specs.Traces.{IsTraceOf}
use Rattle.certificate.specs.TraceTexts.{trace_text}
use Rattle.lines.specs.Texts.{header_data, header_line, line_of, data_of}
use Rattle.lines.proofs.TextLemmas.{IsLineOf, IsLineOf-plain, AllByRecursion-from}
use Rattle.lines.proofs.LineLemmas.{IsWritten-sound, header_plain, header_says-header_line, header_short}

pub cut-ended : (lines : List (List ℕ)) → AllByRecursion IsUnbroken lines
    → cut (ended_lines lines) ≡ record { lines = lines; rest = [] }
unfolding cut
cut-ended [] all = refl
cut-ended (line ∷ lines) all =
    ap cut (append_assoc line (10 ∷ []) (ended_lines lines)) ∙ cut-line line (ended_lines lines) all.0
    ∙ ap (λ (c : Cut). let later : Cut = record { lines = line ∷ c.lines; rest = c.rest } in later)
    (cut-ended lines all.1)

-- ---- room for the records of a trace

tasks_in-append : (before more : List Record) → tasks_in (before ++ more) ≡ tasks_in before + tasks_in more
tasks_in-append before more = sum_by-append (λ r. cond (is_some (made r.body)) 1 0) before more

tasks_in-cons : (r : Record) (rs : List Record)
    → tasks_in (r ∷ rs) ≡ cond (is_some (made r.body)) 1 0 + tasks_in rs
tasks_in-cons r rs = sum_by-cons (λ r. cond (is_some (made r.body)) 1 0) r rs

room-tasks : (makes : Bool) (few more : ℕ) → few + (cond makes 1 0 + more) ≤ max_tasks
    → (not makes || nat_lt few (max_tasks)) ≡ true
room-tasks false few more h = refl
room-tasks true few more h = lt-ltb few (max_tasks) (omega arith)

has_room-before : (before : List Record) (r : Record) (rs : List Record)
    → length (before ++ r ∷ rs) ≤ max_records → tasks_in (before ++ r ∷ rs) ≤ max_tasks
    → has_room before r ≡ true
has_room-before before r rs few tasks =
    let records : length before < max_records = omega (arith, length-append before (r ∷ rs)) in
    let task : tasks_in before + (cond (is_some (made r.body)) 1 0 + tasks_in rs) ≤ max_tasks =
    omega (arith, tasks_in-append before (r ∷ rs), tasks_in-cons r rs) in
    rw (lt-ltb (length before) (max_records) records)
    (room-tasks (is_some (made r.body)) (tasks_in before) (tasks_in rs) task)

-- ---- line after line

not_first : (n : ℕ) → 2 ≤ n → (n == 1) ≡ false
not_first n later = ne_eqb n 1 (λ e. omega arith)

not_long : (line : List ℕ) → length line ≤ max_line → is_long line ≡ false
not_long line short = grind arith

-- the trace of this version with these records
abbrev trace_at : ℕ → List Record → TraceView
trace_at version rs = record { version = version; records = rs }

from_line-records : (newest version : ℕ) (line : Record → List ℕ) (n : ℕ) (before rs : List Record) → 2 ≤ n
    → AllByRecursion (λ r. IsLineOf version (line r) r) rs → length (before ++ rs) ≤ max_records
    → tasks_in (before ++ rs) ≤ max_tasks
    → from_line (traces newest) n (trace_at version before) (map line rs) []
    ≡ Ok (trace_at version (before ++ rs))
unfolding from_line
from_line-records newest version line n before [] later all few tasks =
    rw (not_first n later) (ap (λ (rs : List Record). Ok (trace_at version rs)) (sym (append-nil before)))
from_line-records newest version line n before (r ∷ rs) later all few tasks =
    let whole : (before ++ r ∷ []) ++ rs ≡ before ++ r ∷ rs = append_assoc before (r ∷ []) rs in
    let rest =
    from_line-records newest version line (n + 1) (before ++ r ∷ []) rs (omega arith) all.1 (rw whole few)
    (rw whole tasks) in
    rw (not_long (line r) all.0.short, not_first n later, all.0.says, has_room-before before r rs few tasks)
    (rest ∙ ap (λ (rs : List Record). Ok (trace_at version rs)) whole)

-- the text of a trace, given its lines, stands for it
trace_said-ended : (newest version : ℕ) (header : List ℕ) (line : Record → List ℕ) (rs : List Record)
    → header_says newest header ≡ Ok version → length header ≤ max_line → IsUnbroken header
    → AllByRecursion (λ r. IsLineOf version (line r) r) rs
    → length rs ≤ max_records → tasks_in rs ≤ max_tasks
    → trace_said newest (ended_lines (header ∷ map line rs)) ≡ Ok (trace_at version rs)
unfolding from_line
trace_said-ended newest version header line rs says short unbroken all few tasks =
    ap (λ (c : Cut). from_line (traces newest) 1 no_trace c.lines c.rest)
    (cut-ended (header ∷ map line rs) (unbroken, lines rs all))
    ∙ rw (not_long header short, says)
    (from_line-records newest version line 2 [] rs (omega arith) all few tasks)
  where
    lines : (rs : List Record) → AllByRecursion (λ r. IsLineOf version (line r) r) rs
        → AllByRecursion IsUnbroken (map line rs)
    lines [] all = tt
    lines (r ∷ rs) all = (all.0.unbroken, lines rs all.1)

-- the same where each record of a trace has its line
pub trace_said-trace : (newest version : ℕ) (header : List ℕ) (line : Record → List ℕ) (rs : List Record)
    → header_says newest header ≡ Ok version → length header ≤ max_line → IsUnbroken header
    → All (λ r. IsLineOf version (line r) r) rs → IsTrace rs
    → trace_said newest (ended_lines (header ∷ map line rs)) ≡ Ok (record { version = version; records = rs })
trace_said-trace newest version header line rs says short unbroken all trace =
    trace_said-ended newest version header line rs says short unbroken (AllByRecursion-from _ rs all)
    trace.few_records trace.few_tasks

-- a version that is known
version-range : (version : ℕ) → IsKnown version → (1 ≤ version) × (version ≤ 3)
version-range version (inl one) = (omega (arith, one), omega (arith, one))
version-range version (inr (inl two)) = (omega (arith, two), omega (arith, two))
version-range version (inr (inr three)) = (omega (arith, three), omega (arith, three))

pub trace_said-text : (newest : ℕ) (trace : TraceView) → trace.version ≤ newest
    → IsTraceOf trace.version trace.records → trace_said newest (trace_text trace) ≡ Ok trace
trace_said-text newest trace known is =
    let version = trace.version in
    let rs = trace.records in
    let range = version-range version is.known in
    trace_said-trace newest version (header_line version) line_of rs
    (header_says-header_line newest version range.0 range.1 known) (header_short version range.1)
    (unbroken-compact_text (header_data version) 1 (header_plain version range.1))
    (λ k d h.
    let written =
    IsWritten-sound version (get_or rs k d) (is.is_trace.in_range k d h)
    ((is.is_trace.sound k d h, is.turns k d h), is.nesting k d h) in
    IsLineOf-plain version (data_of (get_or rs k d)) 3 (get_or rs k d) written.plain (omega arith)
    written.short written.says)
    is.is_trace
