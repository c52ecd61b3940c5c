-- Why the lines, one after another, say what each of them says.
use Rattle.std.proofs.Common.{◌≡◌, ℕ, ◌+◌, ◌<◌, ◌≤◌, inl, inr, List, [], ◌∷◌, ◌++◌, length, take, Option}
use Rattle.std.proofs.Common.{Some, None, Result, Ok, Err, true, false, cond, arith, refl, sym, ap, ◌∙◌}
use Rattle.std.proofs.Common.{subst, append_assoc, append-nil, length-append}
use Rattle.std.specs.Prelude.{nat_lt, ◌==◌, slice_get}
use Rattle.std.specs.Result.{result_ok, result_err, result_unwrap_or}
use Rattle.std.specs.List.{filter_map}
use Rattle.std.proofs.Math.Seq.{take-append_seam}
use Rattle.std.proofs.lemmas.Bool.{cases_lt}
use Rattle.std.proofs.lemmas.Option.{slice_get_past}
use Rattle.std.proofs.lemmas.List.Elements.{filter_map-append}
use Rattle.ompt_events.specs.declared.records.Record.{Record}
use Rattle.ompt_events.specs.Traces.{TraceView}
use Rattle.lines.specs.declared.cause.ReadCause.{ReadCause}
use Rattle.lines.specs.declared.cause.ReadCause.TheVariants.{LineTooLong, Unended, Header, Limit}
use Rattle.certificate.specs.declared.faults.ReadFault.{ReadFault}
use Rattle.lines.specs.Limits.{max_line}
use Rattle.lines.specs.RecordLines.{line_says, header_says}
use Rattle.certificate.specs.Formats.{Cut, cut, is_long, line_adds, end_adds, from_line, go_on, fault_in}
use Rattle.certificate.specs.Files.{Room, has_room, no_trace, with_record_in, with_header, text_adds_in}
use Rattle.certificate.specs.Files.{traces, traces_in}
use Rattle.certificate.specs.Files.{line_fault, trace_before}
use Rattle.certificate.specs.Files.{file_says_to, trace_said, records_said, file_version, cause_in, trace_of}
use Rattle.certificate.specs.Files.{StandsFor, IsFaultlessBefore, IsFirstFault}
use Rattle.certificate.specs.Reading.{IsFromLine, IsLineReached}
use Rattle.lines.proofs.JsonLemmas.{IsUnbroken}
use Rattle.lines.proofs.RecordLemmas.{ok_not_err}
use Rattle.certificate.proofs.FileLemmas.{cut-after, cut-line, line_feeds-lines}
use Rattle.certificate.proofs.ReadingLemmas.{IsLineReached-within, IsLineReached-later}

-- what is said from place k on
abbrev Walked : ℕ → List (List ℕ) → List ℕ → ℕ → Result TraceView ReadFault → Type 0
Walked newest all rest k (Ok rs) =
    ((j : ℕ) → k ≤ j → j ≤ length all → cause_in newest all rest j ≡ None) × (rs ≡ trace_of newest all)
Walked newest all rest k (Err f) =
    (j : ℕ) × (f.line ≡ j + 1) × (k ≤ j) × (j ≤ length all) × (cause_in newest all rest j ≡ Some f.cause)
    × ((i : ℕ) → k ≤ i → i < j → cause_in newest all rest i ≡ None)

Walked-back : (newest : ℕ) (all : List (List ℕ)) (rest : List ℕ) (k : ℕ) (said : Result TraceView ReadFault)
    → cause_in newest all rest k ≡ None → Walked newest all rest (k + 1) said → Walked newest all rest k said
Walked-back newest all rest k (Ok rs) none walked = (
  (λ j low high. elim (cases_lt k j) [
    | inl more ↦ walked.0 j (omega arith) high
    | inr same ↦ let is : j ≡ k = omega arith in ap (cause_in newest all rest) is ∙ none
  ]),
  walked.1,
)
Walked-back newest all rest k (Err f) none walked = (
  walked.0,
  walked.1,
  omega (arith, walked.2),
  walked.3,
  walked.4,
  λ i low high. elim (cases_lt k i) [
    | inl more ↦ walked.5 i (omega arith) high
    | inr same ↦ let is : i ≡ k = omega arith in ap (cause_in newest all rest) is ∙ none
  ],
)

Walked-fault : (newest : ℕ) (all : List (List ℕ)) (rest : List ℕ) (k : ℕ) (e : ReadCause) → k ≤ length all
    → cause_in newest all rest k ≡ Some e → Walked newest all rest k (Err (fault_in (k + 1) e))
Walked-fault newest all rest k e within has =
    (k, refl, omega arith, within, has, λ i low high. absurd (omega arith))

slice_get-seam : (done : List (List ℕ)) (line : List ℕ) (lines : List (List ℕ))
    → slice_get (done ++ (line ∷ lines)) (length done) ≡ Some line
slice_get-seam [] line lines = refl
slice_get-seam (d ∷ done) line lines = slice_get-seam done line lines

pub end_adds-ok : (n : ℕ) (before rs : TraceView) (rest : List ℕ) → end_adds n before rest ≡ Ok rs
    → rs ≡ before
end_adds-ok n before rs rest h =
    elim (is_long rest) as
    (λ b.
    cond b (Err LineTooLong)
    (cond (nat_lt 0 (length rest)) (Err Unended) (cond (n == 1) (Err Header) (Ok before)))
    ≡ Ok rs
    → rs ≡ before) [
      | true ↦ λ e. absurd (ok_not_err rs LineTooLong (sym e))
      | false ↦ λ e.
          elim (nat_lt 0 (length rest)) as
          (λ b. cond b (Err Unended) (cond (n == 1) (Err Header) (Ok before)) ≡ Ok rs → rs ≡ before) [
            | true ↦ λ e. absurd (ok_not_err rs Unended (sym e))
            | false ↦ λ e.
                elim (n == 1) as (λ b. cond b (Err Header) (Ok before) ≡ Ok rs → rs ≡ before) [
                  | true ↦ λ e. absurd (ok_not_err rs Header (sym e))
                  | false ↦ λ e. cc
                ] e
          ] e
    ] h

-- the records of the lines so far, and of one more
records_of-more : (room : Room) (newest : ℕ) (done : List (List ℕ)) (before after : TraceView)
    (line : List ℕ) → before ≡ trace_of newest done
    → line_adds (traces_in room newest) (length done + 1) before line ≡ Ok after
    → after ≡ trace_of newest (done ++ (line ∷ []))
records_of-more room newest done before after line is h =
    elim (is_long line) as
    (λ b.
    cond b (Err LineTooLong) (text_adds_in room newest (length done + 1) before line) ≡ Ok after
    → after ≡ trace_of newest (done ++ (line ∷ []))) [
      | true ↦ λ e. absurd (ok_not_err after LineTooLong (sym e))
      | false ↦ λ e. by_done done is e
    ] h
  where
    one_more : TraceView → TraceView
    one_more b = record { version = b.version; records = b.records ++ records_said b.version (line ∷ []) }

    by_record : (before : TraceView) (o : Result Record ReadCause) → with_record_in room before o ≡ Ok after
        → after
        ≡ record {
          version = before.version;
          records =
              before.records ++ (filter_map (λ (x : Result Record ReadCause). result_ok x) (o ∷ []));
        }
    by_record before (Err e) h = absurd (ok_not_err after e (sym h))
    by_record before (Ok r) h =
        let more : TraceView = record { version = before.version; records = before.records ++ r ∷ [] } in
        elim (room before.records r) as (λ b. cond b (Ok more) (Err Limit) ≡ Ok after → after ≡ more) [
          | true ↦ λ e. cc
          | false ↦ λ e. absurd (ok_not_err after Limit (sym e))
        ] h

    by_header : (o : Result ℕ ReadCause) → with_header o ≡ Ok after
        → after ≡ record { version = result_unwrap_or o no_trace.version; records = [] }
    by_header (Err e) h = absurd (ok_not_err after e (sym h))
    by_header (Ok version) h = cc

    by_done : (done : List (List ℕ)) → before ≡ trace_of newest done
        → text_adds_in room newest (length done + 1) before line ≡ Ok after
        → after ≡ trace_of newest (done ++ (line ∷ []))
    by_done [] is e = by_header (header_says newest line) e
    by_done (d ∷ done) is e =
        let later : (length (d ∷ done) + 1 == 1) ≡ false = grind arith in
        let version = file_version newest (d ∷ done) in
        by_record before (line_says before.version line) (rw later at e) ∙ ap one_more is
        ∙ ap
        (λ (rs : List Record).
        let grown : TraceView = record { version = version; records = rs } in grown)
        (sym (filter_map-append (λ l. result_ok (line_says version l)) done (line ∷ [])))

-- the walk goes over each line once
walk : (newest : ℕ) (all : List (List ℕ)) (rest : List ℕ) (lines done : List (List ℕ)) (before : TraceView)
    → all ≡ done ++ lines → before ≡ trace_of newest done
    → Walked newest all rest (length done) (from_line (traces newest) (length done + 1) before lines rest)
unfolding from_line
walk newest all rest [] done before whole is = by_end (end_adds (length done + 1) before rest) refl
  where
    same : all ≡ done
    same = whole ∙ append-nil done

    front : trace_of newest (take (length done) all) ≡ before
    front =
        ap (λ ls. trace_of newest (take (length done) ls)) whole
        ∙ ap (trace_of newest) (take-append_seam done []) ∙ sym is

    at : cause_in newest all rest (length done) ≡ result_err (end_adds (length done + 1) before rest)
    at =
        ap (λ (t : TraceView). line_fault newest t (length done) rest (slice_get all (length done))) front
        ∙ ap (λ (o : Option (List ℕ)). line_fault newest before (length done) rest o)
        (slice_get_past all (length done) (omega (arith, ap length same)))

    by_end : (r : Result TraceView ReadCause) → end_adds (length done + 1) before rest ≡ r
        → Walked newest all rest (length done) (go_on (length done + 1) r Ok)
    by_end (Ok rs) e = (
      (λ j low high.
          let here : j ≡ length done = omega (arith, ap length same) in
          ap (cause_in newest all rest) here ∙ at ∙ ap result_err e),
      end_adds-ok (length done + 1) before rs rest e ∙ is ∙ ap (trace_of newest) (sym same),
    )
    by_end (Err cause) e =
        Walked-fault newest all rest (length done) cause (omega (arith, ap length same))
        (at ∙ ap result_err e)
walk newest all rest (line ∷ lines) done before whole is =
    by_line (line_adds (traces newest) (length done + 1) before line) refl
    (λ after e.
    walk newest all rest lines (done ++ (line ∷ [])) after
    (whole ∙ sym (append_assoc done (line ∷ []) lines))
    (records_of-more has_room newest done before after line is e))
  where
    front : trace_of newest (take (length done) all) ≡ before
    front =
        ap (λ ls. trace_of newest (take (length done) ls)) whole
        ∙ ap (trace_of newest) (take-append_seam done (line ∷ lines)) ∙ sym is

    at : cause_in newest all rest (length done)
        ≡ result_err (line_adds (traces newest) (length done + 1) before line)
    at =
        ap (λ (t : TraceView). line_fault newest t (length done) rest (slice_get all (length done))) front
        ∙ ap (λ (o : Option (List ℕ)). line_fault newest before (length done) rest o)
        (ap (λ ls. slice_get ls (length done)) whole ∙ slice_get-seam done line lines)

    one_more : length (done ++ (line ∷ [])) ≡ length done + 1
    one_more = length-append done (line ∷ [])

    by_line : (r : Result TraceView ReadCause) → line_adds (traces newest) (length done + 1) before line ≡ r
        → ((after : TraceView) → line_adds (traces newest) (length done + 1) before line ≡ Ok after
        → Walked newest all rest (length (done ++ (line ∷ [])))
        (from_line (traces newest) (length (done ++ (line ∷ [])) + 1) after lines rest))
        → Walked newest all rest (length done)
        (go_on (length done + 1) r (λ rs. from_line (traces newest) (length done + 1 + 1) rs lines rest))
    by_line (Err cause) e later =
        Walked-fault newest all rest (length done) cause
        (omega (arith, ap length whole, length-append done (line ∷ lines))) (at ∙ ap result_err e)
    by_line (Ok after) e later =
        Walked-back newest all rest (length done) _ (at ∙ ap result_err e)
        (subst (λ (n : ℕ). Walked newest all rest n (from_line (traces newest) (n + 1) after lines rest))
        one_more (later after e))

walk_file : (newest : ℕ) (bytes : List ℕ)
    → Walked newest (cut bytes).lines (cut bytes).rest 0 (trace_said newest bytes)
walk_file newest bytes =
    walk newest (cut bytes).lines (cut bytes).rest (cut bytes).lines [] no_trace refl refl

-- ---- the laws

pub said_stands : (newest : ℕ) (bytes : List ℕ) (trace : TraceView) → trace_said newest bytes ≡ Ok trace
    → StandsFor newest bytes trace
said_stands newest bytes trace e =
    let walked : Walked newest (cut bytes).lines (cut bytes).rest 0 (Ok trace) =
    subst (λ (said : Result TraceView ReadFault). Walked newest (cut bytes).lines (cut bytes).rest 0 said)
    e (walk_file newest bytes) in
    record { no_fault = λ k within. walked.0 k (omega arith) within; each = walked.1 }

pub said_first : (newest : ℕ) (bytes : List ℕ) (f : ReadFault) → trace_said newest bytes ≡ Err f
    → IsFirstFault newest bytes f
said_first newest bytes f e =
    let walked : Walked newest (cut bytes).lines (cut bytes).rest 0 (Err f) =
    subst (λ (said : Result TraceView ReadFault). Walked newest (cut bytes).lines (cut bytes).rest 0 said)
    e (walk_file newest bytes) in
    record {
      place = walked.0;
      line = walked.1;
      within = walked.3;
      has = walked.4;
      earlier = λ k below. walked.5 k (omega arith) (omega (arith, walked.1));
    }

same_fault : (f f' : ReadFault) → f'.line ≡ f.line → f'.cause ≡ f.cause → f' ≡ f
same_fault f f' line cause = ap (λ n. fault_in n f'.cause) line ∙ ap (λ e. fault_in f.line e) cause

first_said : (newest : ℕ) (bytes : List ℕ) (f : ReadFault) → IsFirstFault newest bytes f
    → trace_said newest bytes ≡ Err f
first_said newest bytes f fault = by_said (trace_said newest bytes) refl
  where
    by_said : (said : Result TraceView ReadFault) → trace_said newest bytes ≡ said → said ≡ Err f
    by_said (Ok rs) e =
        absurd
        (let none : None ≡ Some f.cause =
        sym ((said_stands newest bytes rs e).no_fault fault.place fault.within) ∙ fault.has in
        cc)
    by_said (Err f') e =
        let other = said_first newest bytes f' e in
        elim (cases_lt other.place fault.place) [
          | inl before ↦
              absurd
              (let none : None ≡ Some f'.cause =
              sym (fault.earlier other.place (omega (arith, before, fault.line))) ∙ other.has in
              cc)
          | inr not_before ↦ elim (cases_lt fault.place other.place) [
            | inl after ↦
                absurd
                (let none : None ≡ Some f.cause =
                sym (other.earlier fault.place (omega (arith, after, other.line))) ∙ fault.has in
                cc)
            | inr not_after ↦
                let same : other.place ≡ fault.place = omega arith in
                let line : f'.line ≡ f.line = other.line ∙ ap (λ n. n + 1) same ∙ sym fault.line in
                let cause : f'.cause ≡ f.cause =
                (let both : Some f'.cause ≡ Some f.cause =
                sym other.has ∙ ap (cause_in newest (cut bytes).lines (cut bytes).rest) same
                ∙ fault.has in
                cc) in
                ap Err (same_fault f f' line cause)
          ]
        ]

stands_said : (newest : ℕ) (bytes : List ℕ) (trace : TraceView) → StandsFor newest bytes trace
    → trace_said newest bytes ≡ Ok trace
stands_said newest bytes trace stands = by_said (trace_said newest bytes) refl
  where
    by_said : (said : Result TraceView ReadFault) → trace_said newest bytes ≡ said → said ≡ Ok trace
    by_said (Ok other) e = ap Ok ((said_stands newest bytes other e).each ∙ sym stands.each)
    by_said (Err f) e =
        let fault = said_first newest bytes f e in
        absurd
        (let none : None ≡ Some f.cause = sym (stands.no_fault fault.place fault.within) ∙ fault.has in
        cc)

-- ---- the same of what a file says

pub stands_for : (newest : ℕ) (bytes : List ℕ) (trace : TraceView) → file_says_to newest bytes ≡ Ok trace
    → StandsFor newest bytes trace
unfolding file_says_to
stands_for newest bytes trace e = said_stands newest bytes trace e

pub said_of_stands : (newest : ℕ) (bytes : List ℕ) (trace : TraceView) → StandsFor newest bytes trace
    → file_says_to newest bytes ≡ Ok trace
unfolding file_says_to
said_of_stands newest bytes trace stands = stands_said newest bytes trace stands

pub first_fault : (newest : ℕ) (bytes : List ℕ) (f : ReadFault) → file_says_to newest bytes ≡ Err f
    → IsFirstFault newest bytes f
unfolding file_says_to
first_fault newest bytes f e = said_first newest bytes f e

pub said_of_first : (newest : ℕ) (bytes : List ℕ) (f : ReadFault) → IsFirstFault newest bytes f
    → file_says_to newest bytes ≡ Err f
unfolding file_says_to
said_of_first newest bytes f fault = first_said newest bytes f fault

-- ---- lines that were read before have no fault

pub faultless-before : (newest n : ℕ) (bytes : List ℕ) → IsLineReached (traces newest) n bytes
    → IsFaultlessBefore newest n bytes
faultless-before newest n bytes reached = by_said (trace_said newest bytes) refl
  where
    by_said : (said : Result TraceView ReadFault) → trace_said newest bytes ≡ said
        → IsFaultlessBefore newest n bytes
    by_said (Ok rs) e =
        λ k below.
        (said_stands newest bytes rs e).no_fault k
        (omega
        (arith, below, IsLineReached-within (traces newest) n bytes reached, line_feeds-lines bytes))
    by_said (Err f) e =
        λ k below.
        (said_first newest bytes f e).earlier k
        (omega (arith, below, IsLineReached-later (traces newest) n bytes f reached e))

-- ---- the trace of the lines that were read

-- the lines before the one of number n, that line, and those after it
lines_from : (n : ℕ) (bytes line rest : List ℕ) → IsUnbroken line
    → (from : IsFromLine n bytes (line ++ (10 ∷ rest)))
    → (cut bytes).lines ≡ (cut from.before).lines ++ (line ∷ (cut rest).lines)
lines_from n bytes line rest all from =
    ap (λ (whole : List ℕ). (cut whole).lines) from.parts
    ∙ cut-after from.before (line ++ (10 ∷ rest)) from.lines.ended
    ∙ ap (λ (c : Cut). (cut from.before).lines ++ c.lines) (cut-line line rest all)

-- one line more stands for what it makes of the trace before it
pub trace_before-line : (room : Room) (newest n k : ℕ) (bytes line rest : List ℕ) (before after : TraceView)
    → IsUnbroken line → length line ≤ max_line → IsFromLine n bytes (line ++ (10 ∷ rest)) → n ≡ k + 1
    → trace_before newest (cut bytes).lines k ≡ before → Ok after ≡ text_adds_in room newest n before line
    → trace_before newest (cut bytes).lines n ≡ after
trace_before-line room newest n k bytes line rest before after all short from next is adds =
    ap (trace_of newest) with_line
    ∙ sym
    (records_of-more room newest done before after line (sym is ∙ ap (trace_of newest) first) line_is)
  where
    done : List (List ℕ)
    done = (cut from.before).lines

    count : k ≡ length done
    count = omega (arith, line_feeds-lines from.before, from.lines.count, next)

    whole : (cut bytes).lines ≡ done ++ (line ∷ (cut rest).lines)
    whole = lines_from n bytes line rest all from

    first : take k (cut bytes).lines ≡ done
    first =
        ap (take k) whole ∙ ap (λ (j : ℕ). take j (done ++ (line ∷ (cut rest).lines))) count
        ∙ take-append_seam done (line ∷ (cut rest).lines)

    one_more : n ≡ length (done ++ (line ∷ []))
    one_more = omega (arith, next, count, length-append done (line ∷ []))

    with_line : take n (cut bytes).lines ≡ done ++ (line ∷ [])
    with_line =
        ap (take n) (whole ∙ sym (append_assoc done (line ∷ []) (cut rest).lines))
        ∙ ap (λ (j : ℕ). take j ((done ++ (line ∷ [])) ++ (cut rest).lines)) one_more
        ∙ take-append_seam (done ++ (line ∷ [])) (cut rest).lines

    not_long : is_long line ≡ false
    not_long = grind arith

    line_is : line_adds (traces_in room newest) (length done + 1) before line ≡ Ok after
    line_is =
        let at : n ≡ length done + 1 = omega (arith, next, count) in
        rw not_long (sym (subst (λ (j : ℕ). Ok after ≡ text_adds_in room newest j before line) at adds))
