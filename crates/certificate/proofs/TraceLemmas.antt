-- What holds of the lines of a trace file, for a reader that goes from line to line.
use Rattle.std.proofs.Common.{Bool, ◌≡◌, ◌≢◌, ℕ, ◌+◌, ◌-◌, ◌<◌, ◌≤◌, ◌&&◌, List, [], ◌∷◌, ◌++◌, length}
use Rattle.std.proofs.Common.{Option, Some, None, Result, Ok, Err, true, false, cond, arith, refl, sym, ap}
use Rattle.std.proofs.Common.{◌∙◌, subst, inl, inr, eqb-true, eq-eqb, length-append}
use Rattle.std.specs.Prelude.{nat_le, ◌==◌, IfSome, ok_or, option_and_then}
use Rattle.ompt_events.specs.declared.records.Record.{Record}
use Rattle.ompt_events.specs.Traces.{IsKnown, TraceView}
use Rattle.ompt_events.specs.Limits.{max_records}
use Rattle.serde_json.specs.Data.{Data}
use Rattle.lines.specs.declared.cause.ReadCause.{ReadCause}
use Rattle.lines.specs.declared.cause.ReadCause.TheVariants.{Device, Memory, Header, LineTooLong}
use Rattle.lines.specs.declared.cause.ReadCause.TheVariants.{NotJson, Field, Limit, Unended}
use Rattle.lines.specs.declared.cause.ReadCause.TheVariants.{TurnsSpent}
use Rattle.certificate.specs.declared.faults.ReadFault.{ReadFault}
use Rattle.lines.specs.RecordLines.{line_says, header_says, said_of, value_of, names_format}
use Rattle.lines.specs.RecordLines.{format_name}
use Rattle.lines.specs.RecordLines.{version_read, version_in, bounded, record_fits, unbounded}
use Rattle.certificate.specs.Files.{Room, file_says_to, text_adds, text_adds_in, traces, traces_in}
use Rattle.certificate.specs.Files.{with_record, with_record_in, with_header, has_room}
use Rattle.std.proofs.lemmas.Bool.{ltb-true, leb-true, cases_lt}
use Rattle.std.proofs.lemmas.Option.{none-some, option_and_then_some}
use Rattle.lines.specs.Members.{whole}
use Rattle.lines.specs.MemberNames as member
use Rattle.certificate.specs.Reading.{IsToldIn, IsToldRightlyTo, IsAnswerIn, IsAnswerTo, Grows, IsTextCause}
use Rattle.certificate.specs.Reading.{HasTextCauses}
use Rattle.certificate.proofs.LawLemmas.{faultless-before}
use Rattle.lines.proofs.RecordLemmas.{ok_not_err, both-first, both-second}

-- ---- causes

pub same_cause : {X : Type 0} (e f : ReadCause) → ◌≡◌ {A = Result X ReadCause} (Err e) (Err f)
    → IsTextCause f → IsTextCause e
same_cause e f h is = let same : f ≡ e = cc in subst (λ (c : ReadCause). IsTextCause c) same is

with_record-cause : (room : Room) (version : ℕ) (before : TraceView) (o : Option Data) (e : ReadCause)
    → Err e ≡ with_record_in room before (said_of version o) → IsTextCause e
with_record-cause room version before None e h = same_cause e NotJson h tt
with_record-cause room version before (Some d) e h = by_members (unbounded version d) h
  where
    by_members : (o : Option Record) → Err e ≡ with_record_in room before (bounded record_fits o)
        → IsTextCause e
    by_members None h = same_cause e Field h tt
    by_members (Some r) h =
        elim (record_fits r) as
        (λ b. Err e ≡ with_record_in room before (cond b (Ok r) (Err Limit)) → IsTextCause e) [
          | true ↦ λ fits.
              let more : TraceView = record {
                version = before.version;
                records = before.records ++ r ∷ [];
              } in
              elim (room before.records r) as
              (λ b. Err e ≡ cond b (Ok more) (Err Limit) → IsTextCause e) [
                | true ↦ λ kept. absurd (ok_not_err _ e (sym kept))
                | false ↦ λ full. same_cause e Limit full tt
              ] fits
          | false ↦ λ past. same_cause e Limit past tt
        ] h

with_header-cause : (o : Option ℕ) (e : ReadCause) → Err e ≡ with_header (ok_or o Header) → IsTextCause e
with_header-cause None e h = same_cause e Header h tt
with_header-cause (Some version) e h = absurd (ok_not_err _ e (sym h))

pub traces_in-text_causes : (room : Room) (newest : ℕ) → HasTextCauses (traces_in room newest)
traces_in-text_causes room newest n before line e h =
    elim (n == 1) as
    (λ b.
    Err e
    ≡ cond b (with_header (header_says newest line))
    (with_record_in room before (line_says before.version line))
    → IsTextCause e) [
      | true ↦
          λ first.
          with_header-cause (option_and_then (version_in format_name newest) (value_of line)) e first
      | false ↦ λ later. with_record-cause room before.version before (value_of line) e later
    ] h

pub traces-text_causes : (newest : ℕ) → HasTextCauses (traces newest)
traces-text_causes newest = traces_in-text_causes has_room newest

-- ---- what is reported of a trace file

pub IsToldRightlyTo-from : (newest : ℕ) (e : ReadCause) (n : ℕ) (bytes : List ℕ) (left : Option (List ℕ))
    → IsToldIn (traces newest) e n bytes left → IsToldRightlyTo newest e n bytes left
unfolding file_says_to
IsToldRightlyTo-from newest Device n bytes left told = (told.0, faultless-before newest n bytes told.1)
IsToldRightlyTo-from newest Memory n bytes left told = (told.0, faultless-before newest n bytes told.1)
IsToldRightlyTo-from newest Header n bytes left told = told
IsToldRightlyTo-from newest LineTooLong n bytes left told = told
IsToldRightlyTo-from newest NotJson n bytes left told = told
IsToldRightlyTo-from newest Field n bytes left told = told
IsToldRightlyTo-from newest Limit n bytes left told = told
IsToldRightlyTo-from newest Unended n bytes left told = told
IsToldRightlyTo-from newest TurnsSpent n bytes left told = (told.0, faultless-before newest n bytes told.1)

pub IsAnswerTo-from : (newest : ℕ) (known : Option (List ℕ)) (answer : Result TraceView ReadFault)
    (left : Option (List ℕ))
    → IfSome known (λ bytes. IsAnswerIn (traces newest) answer bytes left)
    → IfSome known (λ bytes. IsAnswerTo newest answer bytes left)
unfolding file_says_to
IsAnswerTo-from newest None answer left is = tt
IsAnswerTo-from newest (Some bytes) (Ok trace) left is = is
IsAnswerTo-from newest (Some bytes) (Err fault) left is =
    IsToldRightlyTo-from newest fault.cause fault.line bytes left is

-- ---- how many records there are

with_record-grows : (before after : TraceView) (o : Result Record ReadCause) → Ok after ≡ with_record before o
    → (length after.records ≡ length before.records + 1) × (length before.records < max_records)
with_record-grows before after (Err e) h = absurd (ok_not_err _ e h)
with_record-grows before after (Ok r) h =
    let more : TraceView = record { version = before.version; records = before.records ++ r ∷ [] } in
    elim (has_room before.records r) as
    (λ b.
    has_room before.records r ≡ b → Ok after ≡ cond b (Ok more) (Err Limit)
    → (length after.records ≡ length before.records + 1) × (length before.records < max_records)) [
      | true ↦ λ room same.
          let is : after ≡ more = cc in (
            ap (λ (t : TraceView). length t.records) is ∙ length-append before.records (r ∷ []),
            ltb-true _ _ (both-first _ _ room),
          )
      | false ↦ λ _ full. absurd (ok_not_err _ Limit full)
    ] refl h

with_header-empty : (after : TraceView) (o : Result ℕ ReadCause) → Ok after ≡ with_header o
    → length after.records ≡ 0
with_header-empty after (Err e) h = absurd (ok_not_err _ e h)
with_header-empty after (Ok version) h =
    let none : TraceView = record { version = version; records = [] } in
    let is : after ≡ none = cc in
    ap (λ (t : TraceView). length t.records) is

pub text_adds_in-record : (room : Room) (newest n : ℕ) (before : TraceView) (line : List ℕ) → (n ≡ 1 → ⊥)
    → text_adds_in room newest n before line ≡ with_record_in room before (line_says before.version line)
text_adds_in-record room newest n before line other =
    elim (n == 1) as
    (λ b.
    n == 1 ≡ b
    → cond b (with_header (header_says newest line))
    (with_record_in room before (line_says before.version line))
    ≡ with_record_in room before (line_says before.version line)) [
      | true ↦ λ is. absurd (other (eqb-true n 1 is))
      | false ↦ λ _. refl
    ] refl

pub text_adds-record : (newest n : ℕ) (before : TraceView) (line : List ℕ) → (n ≡ 1 → ⊥)
    → text_adds newest n before line ≡ with_record before (line_says before.version line)
text_adds-record newest n before line other = text_adds_in-record has_room newest n before line other

pub Grows-text : (newest n : ℕ) (before after : TraceView) (line : List ℕ)
    → Ok after ≡ text_adds newest n before line → Grows n before.records after.records
Grows-text newest n before after line h =
    elim (n == 1) as
    (λ b.
    n == 1 ≡ b
    → Ok after
    ≡ cond b (with_header (header_says newest line))
    (with_record before (line_says before.version line))
    → Grows n before.records after.records) [
      | true ↦
          λ is first. record {
            one = rw is (with_header-empty after (header_says newest line) first);
            room = λ other. absurd (other (eqb-true n 1 is));
          }
      | false ↦ λ is later.
          let grown = with_record-grows before after (line_says before.version line) later in
          record { one = rw is grown.0; room = λ _. grown.1 }
    ] refl h

-- the records are as many as the lines before, without the header
pub Grows-counted : {X : Type 0} (n : ℕ) (old new : List X) → 1 ≤ n → length old ≡ n - 2
    → length old ≤ max_records → Grows n old new → (length new ≡ n + 1 - 2) × (length new ≤ max_records)
Grows-counted n old new low counted room grows =
    elim (n == 1) as
    (λ b.
    n == 1 ≡ b → length new ≡ cond b 0 (length old + 1)
    → (length new ≡ n + 1 - 2) × (length new ≤ max_records)) [
      | true ↦ λ is one. let first : n ≡ 1 = eqb-true n 1 is in (omega arith, omega arith)
      | false ↦ λ is one.
          let later : n ≢ 1 = λ same. (let h : true ≡ false = sym (eq-eqb n 1 same) ∙ is in cc) in
          let left = grows.room later in
          (omega arith, omega arith)
    ] refl grows.one

-- ---- the version that a header names

pub header_says-range : (newest : ℕ) (line : List ℕ) (version : ℕ) → Ok version ≡ header_says newest line
    → (1 ≤ version) × (version ≤ newest)
header_says-range newest line version says = by_value (value_of line) says
  where
    by_taken : (n : ℕ) → version_read newest n ≡ Some version → (1 ≤ version) × (version ≤ newest)
    by_taken n e =
        elim (nat_le 1 n && nat_le n newest) as
        (λ b.
        nat_le 1 n && nat_le n newest ≡ b → cond b (Some n) None ≡ Some version
        → (1 ≤ version) × (version ≤ newest)) [
          | true ↦ λ range same.
              let is : n ≡ version = cc in
              let low : 1 ≤ n = leb-true 1 n (both-first (nat_le 1 n) (nat_le n newest) range) in
              let high : n ≤ newest = leb-true n newest (both-second (nat_le 1 n) (nat_le n newest) range) in
              (omega arith, omega arith)
          | false ↦ λ _ other. absurd (none-some version other)
        ] refl e

    by_object : (d : Data) → version_in format_name newest d ≡ Some version
        → (1 ≤ version) × (version ≤ newest)
    by_object d e =
        elim (names_format format_name d) as
        (λ b.
        cond b (option_and_then (version_read newest) (whole member.version d)) None ≡ Some version
        → (1 ≤ version) × (version ≤ newest)) [
          | true ↦
              λ named.
              option_and_then_some (version_read newest) (whole member.version d) version named
              (λ n _ is. by_taken n is)
          | false ↦ λ other. absurd (none-some version other)
        ] e

    by_version : (o : Option ℕ) → Ok version ≡ ok_or o Header → o ≡ Some version
    by_version None e = absurd (ok_not_err version Header e)
    by_version (Some n) e = cc

    by_value : (o : Option Data)
        → Ok version ≡ ok_or (option_and_then (version_in format_name newest) o) Header
        → (1 ≤ version) × (version ≤ newest)
    by_value None e = absurd (ok_not_err version Header e)
    by_value (Some d) e = by_object d (by_version (version_in format_name newest d) e)

pub header_says-known : (newest : ℕ) (line : List ℕ) (version : ℕ) → newest ≤ 3
    → Ok version ≡ header_says newest line → IsKnown version
header_says-known newest line version few says =
    let range = header_says-range newest line version says in
    let low = range.0 in
    let high = range.1 in
    elim (cases_lt 1 version) [
      | inl more ↦ elim (cases_lt 2 version) [
        | inl most ↦ inr (inr (omega arith))
        | inr two ↦ inr (inl (omega arith))
      ]
      | inr one ↦ inl (omega arith)
    ]

-- after a line that adds to a trace, its version is one that is read
with_header-version : (newest : ℕ) (after : TraceView) (line : List ℕ)
    → Ok after ≡ with_header (header_says newest line) → after.version ≤ newest
with_header-version newest after line h = by (header_says newest line) refl h
  where
    by : (o : Result ℕ ReadCause) → header_says newest line ≡ o → Ok after ≡ with_header o
        → after.version ≤ newest
    by (Err cause) e is = absurd (ok_not_err after cause is)
    by (Ok version) e is =
        let range = header_says-range newest line version (sym e) in
        let same : after ≡ record { version = version; records = [] } = cc in
        let named = ap (λ (t : TraceView). t.version) same in
        omega (arith, named, range.1)

with_record-version : (before after : TraceView) (said : Result Record ReadCause)
    → Ok after ≡ with_record before said → after.version ≡ before.version
with_record-version before after (Err cause) is = absurd (ok_not_err after cause is)
with_record-version before after (Ok r) is = by (has_room before.records r) is
  where
    by : (b : Bool)
        → Ok after
        ≡ cond b (Ok (record { version = before.version; records = before.records ++ r ∷ [] }))
        (Err Limit)
        → after.version ≡ before.version
    by true e =
        let same : after ≡ record { version = before.version; records = before.records ++ r ∷ [] } = cc in
        ap (λ (t : TraceView). t.version) same
    by false e = absurd (ok_not_err after Limit e)

pub version-text : (newest n : ℕ) (before after : TraceView) (line : List ℕ)
    → Ok after ≡ text_adds newest n before line → before.version ≤ newest → after.version ≤ newest
version-text newest n before after line h low = by (n == 1) h
  where
    by : (b : Bool)
        → Ok after
        ≡ cond b (with_header (header_says newest line))
        (with_record before (line_says before.version line))
        → after.version ≤ newest
    by true e = with_header-version newest after line e
    by false e =
        let same = with_record-version before after (line_says before.version line) e in
        omega (arith, same, low)
