-- How a round ends, and what is reported of the source.
use Rattle.std.proofs.Common.{◌≡◌, ◌≢◌, ℕ, ◌<◌, ◌≤◌, List, [], ◌∷◌, length, Option, Some, None, Ok, Err}
use Rattle.std.proofs.Common.{arith, refl, eq-eqb}
use Rattle.std.specs.Prelude.{IfSome}
use Rattle.std.specs.Io.KnownBytes.{IsAtEnd}
use Rattle.ompt_events.specs.Traces.{TraceView}
use Rattle.lines.specs.declared.cause.ReadCause.{ReadCause}
use Rattle.certificate.specs.declared.faults.ReadFault.{ReadFault}
use Rattle.lines.specs.declared.cause.ReadCause.TheVariants.{Device, Memory, Header, LineTooLong}
use Rattle.lines.specs.declared.cause.ReadCause.TheVariants.{NotJson, Field, Limit, Unended}
use Rattle.lines.specs.declared.cause.ReadCause.TheVariants.{TurnsSpent}
use Rattle.certificate.specs.Limits.{newest_version}
use Rattle.lines.specs.Limits.{max_line}
use Rattle.certificate.specs.Formats.{said, fault_in}
use Rattle.certificate.specs.Files.{traces, file_says_to}
use Rattle.certificate.specs.Windows.{LineFeedAt}
use Rattle.certificate.specs.Blocks.{IsFillFault}
use Rattle.certificate.specs.ReadingOn.{IsBetweenLines, IsToldWithin, IsToldInRoom, IsAnswerInRoom}
use Rattle.certificate.proofs.LawLemmas.{faultless-before}
use Rattle.certificate.proofs.ReadingLemmas.{IsAfter-long, IsAfter-device, IsAfter-unended}
use Rattle.certificate.proofs.ReadingLemmas.{IsAfter-none_first, IsAfter-none}
use Rattle.certificate.proofs.PieceLemmas.{no_memory}

-- ---- what waits after the whole lines

pub waiting_long : (known : Option (List ℕ)) (n : ℕ) (kept : TraceView) (waiting : List ℕ)
    (left : Option (List ℕ))
    → max_line < length waiting → LineFeedAt waiting None → IsBetweenLines known n kept waiting left
    → IfSome known (λ all. said (traces newest_version) all ≡ Err (fault_in n LineTooLong))
waiting_long known n kept waiting left long none now =
    IsAfter-long (traces newest_version) known n kept waiting left
    (λ k low. (omega arith, λ is. none k (omega arith) (omega arith) (eq-eqb _ _ is))) now

pub waiting_unended : (known : Option (List ℕ)) (n : ℕ) (kept : TraceView) (waiting : List ℕ)
    (left : Option (List ℕ))
    → 0 < length waiting → length waiting ≤ max_line → LineFeedAt waiting None → IsAtEnd left
    → IsBetweenLines known n kept waiting left
    → IfSome known (λ all. said (traces newest_version) all ≡ Err (fault_in n Unended))
waiting_unended known n kept waiting left some few none end now =
    IsAfter-unended (traces newest_version) known n kept waiting left some few none end now

empty : (xs : List ℕ) → length xs ≡ 0 → xs ≡ []
empty [] none = refl
empty (x ∷ xs) none = absurd (omega arith)

pub waiting_no_header : (known : Option (List ℕ)) (n : ℕ) (kept : TraceView) (waiting : List ℕ)
    (left : Option (List ℕ))
    → n ≡ 1 → length waiting ≡ 0 → IsAtEnd left → IsBetweenLines known n kept waiting left
    → IfSome known (λ all. said (traces newest_version) all ≡ Err (fault_in n Header))
waiting_no_header known n kept waiting left first none end now =
    IsAfter-none_first (traces newest_version) known n kept waiting left first (empty waiting none, end) now

pub waiting_none : (known : Option (List ℕ)) (n : ℕ) (kept : TraceView) (waiting : List ℕ)
    (left : Option (List ℕ))
    → n ≢ 1 → length waiting ≡ 0 → IsAtEnd left → IsBetweenLines known n kept waiting left
    → IfSome known (λ all. said (traces newest_version) all ≡ Ok kept)
waiting_none known n kept waiting left later none end now =
    IsAfter-none (traces newest_version) known n kept waiting left later (empty waiting none, end) now

-- the source did not answer, or memory ran out for its bytes
pub waiting_fault : (known : Option (List ℕ)) (n room : ℕ) (kept : TraceView) (cause : ReadCause)
    (waiting : List ℕ) (left : Option (List ℕ))
    → IsFillFault cause → length waiting ≤ room → LineFeedAt waiting None
    → IsBetweenLines known n kept waiting left → IfSome known (λ all. IsToldWithin room cause n all left)
waiting_fault known n room kept Device waiting left is few none now =
    IsAfter-device (traces newest_version) known n kept waiting left none now
waiting_fault known n room kept TurnsSpent waiting left is few none now =
    IsAfter-device (traces newest_version) known n kept waiting left none now
waiting_fault known n room kept Memory waiting left is few none now =
    no_memory known n room kept waiting left few now
waiting_fault known n room kept Header waiting left is few none now = absurd is
waiting_fault known n room kept LineTooLong waiting left is few none now = absurd is
waiting_fault known n room kept NotJson waiting left is few none now = absurd is
waiting_fault known n room kept Field waiting left is few none now = absurd is
waiting_fault known n room kept Limit waiting left is few none now = absurd is
waiting_fault known n room kept Unended waiting left is few none now = absurd is

-- ---- what is reported of a trace file

pub told_in_room : (room : ℕ) (cause : ReadCause) (n : ℕ) (bytes : List ℕ) (left : Option (List ℕ))
    → IsToldWithin room cause n bytes left → IsToldInRoom room cause n bytes left
unfolding file_says_to
told_in_room room Device n bytes left told = (told.0, faultless-before newest_version n bytes told.1)
told_in_room room Memory n bytes left told = (told.0, faultless-before newest_version n bytes told.1)
told_in_room room Header n bytes left told = told
told_in_room room LineTooLong n bytes left told = told
told_in_room room NotJson n bytes left told = told
told_in_room room Field n bytes left told = told
told_in_room room Limit n bytes left told = told
told_in_room room Unended n bytes left told = told
told_in_room room TurnsSpent n bytes left told = (told.0, faultless-before newest_version n bytes told.1)

pub answer_fault : (known : Option (List ℕ)) (room : ℕ) (fault : ReadFault) (left : Option (List ℕ))
    → IfSome known (λ bytes. IsToldWithin room fault.cause fault.line bytes left)
    → IfSome known (λ bytes. IsAnswerInRoom room (Err fault) bytes left)
answer_fault None room fault left told = tt
answer_fault (Some bytes) room fault left told = told_in_room room fault.cause fault.line bytes left told

pub answer_trace : (known : Option (List ℕ)) (room : ℕ) (trace : TraceView) (left : Option (List ℕ))
    → IfSome known (λ bytes. said (traces newest_version) bytes ≡ Ok trace)
    → IfSome known (λ bytes. IsAnswerInRoom room (Ok trace) bytes left)
unfolding file_says_to
answer_trace None room trace left says = tt
answer_trace (Some bytes) room trace left says = says
