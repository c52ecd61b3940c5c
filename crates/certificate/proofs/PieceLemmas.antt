-- What follows of pieces, line by line.
use Rattle.std.proofs.Common.{◌≡◌, ◌≢◌, ℕ, ◌+◌, ◌-◌, ◌<◌, ◌≤◌, ◌==◌, suc, List, [], ◌∷◌, ◌++◌, length, take}
use Rattle.std.proofs.Common.{drop, get_or, Option, Some, None, Result, Ok, Err, true, false, arith}
use Rattle.std.proofs.Common.{refl, sym, ap, ◌∙◌, subst, append_assoc, append-nil, length-append, length-take}
use Rattle.std.proofs.Common.{eq-eqb, add-one}
use Rattle.std.specs.Prelude.{IfSome, All, slice_range}
use Rattle.std.proofs.lemmas.List.{take-append-drop, drop-drop, drop_all}
use Rattle.std.proofs.lemmas.List.Elements.{All-cons}
use Rattle.ompt_events.specs.declared.records.Record.{Record}
use Rattle.ompt_events.specs.Traces.{TraceView, FitsIn}
use Rattle.lines.specs.declared.cause.ReadCause.{ReadCause}
use Rattle.lines.specs.declared.cause.ReadCause.TheVariants.{Device, Memory, Header, LineTooLong}
use Rattle.lines.specs.declared.cause.ReadCause.TheVariants.{NotJson, Field, Limit, Unended}
use Rattle.lines.specs.declared.cause.ReadCause.TheVariants.{TurnsSpent}
use Rattle.certificate.specs.Limits.{newest_version}
use Rattle.lines.specs.Limits.{max_line}
use Rattle.lines.specs.RecordLines.{line_says, header_says}
use Rattle.certificate.specs.Formats.{go_on, rest_says, said, fault_in, line_feeds}
use Rattle.certificate.specs.Files.{has_room, text_adds, traces, with_header, with_record}
use Rattle.certificate.specs.Reading.{IsFromLine, IsTextCause}
use Rattle.certificate.specs.Keeping.{HaveRoom}
use Rattle.certificate.specs.Pieces.{BeginsWith, BeginsWithRecord, BeginsWithRecords, BeginsTooLong}
use Rattle.certificate.specs.Pieces.{BeginsWithFault, IsFaultOf, IsPieceJudged, AreJudged}
use Rattle.certificate.specs.declared.pieces.Piece.{Piece}
use Rattle.certificate.specs.Blocks.{ArePieces, AreCuts}
use Rattle.certificate.specs.Windows.{LineFeedAt}
use Rattle.certificate.specs.ReadingOn.{IsBetweenLines, IsToldWithin}
use Rattle.certificate.proofs.FileLemmas.{rest_says-line, rest_says-long, unbroken-before, unbroken-front}
use Rattle.certificate.proofs.FileLemmas.{window-parts}
use Rattle.certificate.proofs.ReadingLemmas.{from_next, line_feeds-one}
use Rattle.certificate.proofs.TraceLemmas.{traces-text_causes}
use Rattle.lines.proofs.SoundLemmas.{line_says-sound}

-- ---- one line

-- the first line of what waits, before all that follows it
begins_parts : (line later bytes more : List ℕ) → BeginsWith line later bytes
    → bytes ++ more ≡ line ++ (10 ∷ (later ++ more))
begins_parts line later bytes more begins =
    ap (λ (xs : List ℕ). xs ++ more) begins.parts ∙ append_assoc line (10 ∷ later) more

says_line : (n : ℕ) (kept : TraceView) (line later bytes more left : List ℕ) → BeginsWith line later bytes
    → rest_says (traces newest_version) n kept ((bytes ++ more) ++ left)
    ≡ go_on n ((traces newest_version).adds n kept line)
    (λ after. rest_says (traces newest_version) (n + 1) after ((later ++ more) ++ left))
says_line n kept line later bytes more left begins =
    ap (rest_says (traces newest_version) n kept)
    (ap (λ (xs : List ℕ). xs ++ left) (begins_parts line later bytes more begins)
    ∙ append_assoc line (10 ∷ (later ++ more)) left)
    ∙ rest_says-line (traces newest_version) n kept line ((later ++ more) ++ left) begins.unbroken
    begins.short

-- what the text of a line after the header adds
adds_record : (n : ℕ) (kept : TraceView) (line : List ℕ) → n ≢ 1
    → text_adds newest_version n kept line ≡ with_record kept (line_says kept.version line)
adds_record n kept line other = let is : (n == 1) ≡ false = grind arith in rw is refl

-- a line adds to what is kept
pub IsBetween-text : (known : Option (List ℕ)) (n : ℕ) (kept after : TraceView)
    (line later bytes more : List ℕ) (left : Option (List ℕ))
    → BeginsWith line later bytes → text_adds newest_version n kept line ≡ Ok after
    → IsBetweenLines known n kept (bytes ++ more) left
    → IsBetweenLines known (n + 1) after (later ++ more) left
IsBetween-text None n kept after line later bytes more left begins adds now = tt
IsBetween-text (Some all) n kept after line later bytes more None begins adds now = absurd now
IsBetween-text (Some all) n kept after line later bytes more (Some l) begins adds now =
    let whole : (bytes ++ more) ++ l ≡ line ++ (10 ∷ ((later ++ more) ++ l)) =
    ap (λ (xs : List ℕ). xs ++ l) (begins_parts line later bytes more begins)
    ∙ append_assoc line (10 ∷ (later ++ more)) l in (
      now.0 ∙ says_line n kept line later bytes more l begins
          ∙ ap
          (λ r.
          go_on n r (λ after. rest_says (traces newest_version) (n + 1) after ((later ++ more) ++ l)))
          adds,
      from_next n all line ((later ++ more) ++ l) begins.unbroken
          (subst (λ (rest : List ℕ). IsFromLine n all rest) whole now.1),
    )

IsBetween-record : (known : Option (List ℕ)) (n : ℕ) (kept : TraceView) (r : Record)
    (later bytes more : List ℕ) (left : Option (List ℕ))
    → n ≢ 1 → BeginsWithRecord kept.version r later bytes → has_room kept.records r ≡ true
    → IsBetweenLines known n kept (bytes ++ more) left
    → IsBetweenLines known (n + 1) (record { version = kept.version; records = kept.records ++ r ∷ [] })
    (later ++ more) left
IsBetween-record known n kept r later bytes more left other begins room now =
    let after : TraceView = record { version = kept.version; records = kept.records ++ r ∷ [] } in
    let adds : text_adds newest_version n kept begins.line ≡ Ok after =
    adds_record n kept begins.line other ∙ ap (with_record kept) begins.says ∙ rw room refl in
    IsBetween-text known n kept after begins.line later bytes more left begins.begins adds now

-- the line has a fault of its text
line_faulty : (known : Option (List ℕ)) (n : ℕ) (kept : TraceView) (cause : ReadCause)
    (line later bytes more : List ℕ) (left : Option (List ℕ))
    → BeginsWith line later bytes → text_adds newest_version n kept line ≡ Err cause
    → IsBetweenLines known n kept (bytes ++ more) left
    → IfSome known (λ all. said (traces newest_version) all ≡ Err (fault_in n cause))
line_faulty None n kept cause line later bytes more left begins adds now = tt
line_faulty (Some all) n kept cause line later bytes more None begins adds now = absurd now
line_faulty (Some all) n kept cause line later bytes more (Some l) begins adds now =
    now.0 ∙ says_line n kept line later bytes more l begins
    ∙ ap
    (λ r. go_on n r (λ after. rest_says (traces newest_version) (n + 1) after ((later ++ more) ++ l)))
    adds

-- there is no room for the record of the line
pub no_room_line : (known : Option (List ℕ)) (n : ℕ) (kept : TraceView) (r : Record)
    (later bytes more : List ℕ) (left : Option (List ℕ))
    → n ≢ 1 → BeginsWithRecord kept.version r later bytes → has_room kept.records r ≡ false
    → IsBetweenLines known n kept (bytes ++ more) left
    → IfSome known (λ all. said (traces newest_version) all ≡ Err (fault_in n Limit))
no_room_line known n kept r later bytes more left other begins full now =
    line_faulty known n kept Limit begins.line later bytes more left begins.begins
    (adds_record n kept begins.line other ∙ ap (with_record kept) begins.says ∙ rw full refl) now

-- the line stands for no record
pub faulty_line : (known : Option (List ℕ)) (n : ℕ) (kept : TraceView) (cause : ReadCause)
    (bytes more : List ℕ) (left : Option (List ℕ))
    → n ≢ 1 → BeginsWithFault kept.version cause bytes
    → IsBetweenLines known n kept (bytes ++ more) left
    → IfSome known (λ all. said (traces newest_version) all ≡ Err (fault_in n cause))
faulty_line known n kept cause bytes more left other begins now =
    line_faulty known n kept cause begins.line begins.later bytes more left begins.begins
    (adds_record n kept begins.line other ∙ ap (with_record kept) begins.says) now

-- the line is too long
pub long_line : (known : Option (List ℕ)) (n : ℕ) (kept : TraceView) (bytes more : List ℕ)
    (left : Option (List ℕ))
    → BeginsTooLong bytes
    → IsBetweenLines known n kept (bytes ++ more) left
    → IfSome known (λ all. said (traces newest_version) all ≡ Err (fault_in n LineTooLong))
long_line None n kept bytes more left begins now = tt
long_line (Some all) n kept bytes more None begins now = absurd now
long_line (Some all) n kept bytes more (Some l) begins now =
    let whole : (bytes ++ more) ++ l ≡ begins.front ++ ((begins.later ++ more) ++ l) =
    ap (λ (xs : List ℕ). xs ++ l)
    (ap (λ (xs : List ℕ). xs ++ more) begins.parts ∙ append_assoc begins.front begins.later more)
    ∙ append_assoc begins.front (begins.later ++ more) l in
    now.0 ∙ ap (rest_says (traces newest_version) n kept) whole
    ∙ rest_says-long (traces newest_version) n kept begins.front ((begins.later ++ more) ++ l)
    begins.unbroken begins.long

-- memory ran out for what waits from a line on
pub no_memory : (known : Option (List ℕ)) (n room : ℕ) (kept : TraceView) (waiting : List ℕ)
    (left : Option (List ℕ))
    → length waiting ≤ room → IsBetweenLines known n kept waiting left
    → IfSome known (λ all. IsToldWithin room Memory n all left)
no_memory None n room kept waiting left few now = tt
no_memory (Some all) n room kept waiting None few now = absurd now
no_memory (Some all) n room kept waiting (Some l) few now = (
  record { waiting = waiting; begins = now.1; few = few },
  record { before = kept; rest = waiting ++ l; begins = now.1; says = now.0 },
)

-- a line has no other causes
pub no_text_cause : (n : ℕ) (kept : TraceView) (cause : ReadCause) (bytes : List ℕ) → n ≢ 1
    → BeginsWithFault kept.version cause bytes → IsTextCause cause
no_text_cause n kept cause bytes other begins =
    traces-text_causes newest_version n kept begins.line cause
    (sym (adds_record n kept begins.line other ∙ ap (with_record kept) begins.says))

-- the fault that a piece has
pub piece_fault : (known : Option (List ℕ)) (n room : ℕ) (kept : TraceView) (cause : ReadCause)
    (bytes more : List ℕ) (left : Option (List ℕ))
    → n ≢ 1 → length (bytes ++ more) ≤ room → IsFaultOf kept.version cause bytes
    → IsBetweenLines known n kept (bytes ++ more) left
    → IfSome known (λ all. IsToldWithin room cause n all left)
piece_fault known n room kept Memory bytes more left other few is now =
    no_memory known n room kept (bytes ++ more) left few now
piece_fault known n room kept LineTooLong bytes more left other few is now =
    long_line known n kept bytes more left is now
piece_fault known n room kept Header bytes more left other few is now =
    faulty_line known n kept Header bytes more left other is now
piece_fault known n room kept NotJson bytes more left other few is now =
    faulty_line known n kept NotJson bytes more left other is now
piece_fault known n room kept Field bytes more left other few is now =
    faulty_line known n kept Field bytes more left other is now
piece_fault known n room kept Limit bytes more left other few is now =
    faulty_line known n kept Limit bytes more left other is now
piece_fault known n room kept Unended bytes more left other few is now =
    faulty_line known n kept Unended bytes more left other is now
piece_fault known n room kept Device bytes more left other few is now =
    absurd (no_text_cause n kept Device bytes other is)
piece_fault known n room kept TurnsSpent bytes more left other few is now =
    absurd (no_text_cause n kept TurnsSpent bytes other is)

-- ---- lines one after another

-- the lines of some records, and then of others
pub BeginsWithRecords-append : (version : ℕ) (first rest : List Record) (bytes middle later : List ℕ)
    → BeginsWithRecords version first middle bytes → BeginsWithRecords version rest later middle
    → BeginsWithRecords version (first ++ rest) later bytes
BeginsWithRecords-append version [] rest bytes middle later same more = rw same more
BeginsWithRecords-append version (r ∷ first) rest bytes middle later now more =
    (now.0, now.1, BeginsWithRecords-append version first rest now.0 middle later now.2 more)

pub BeginsWithRecords-split : (version : ℕ) (first rest : List Record) (bytes later : List ℕ)
    → BeginsWithRecords version (first ++ rest) later bytes
    → (middle : List ℕ) × BeginsWithRecords version first middle bytes
    × BeginsWithRecords version rest later middle
BeginsWithRecords-split version [] rest bytes later now = (bytes, refl, now)
BeginsWithRecords-split version (r ∷ first) rest bytes later now =
    let more = BeginsWithRecords-split version first rest now.0 later now.2 in
    (more.0, (now.0, now.1, more.1), more.2)

-- each line has one line feed
pub BeginsWithRecords-line_feeds : (version : ℕ) (rs : List Record) (bytes later : List ℕ)
    → BeginsWithRecords version rs later bytes → line_feeds bytes ≡ length rs + line_feeds later
BeginsWithRecords-line_feeds version [] bytes later same = omega (arith, ap line_feeds same)
BeginsWithRecords-line_feeds version (r ∷ rs) bytes later now =
    let begins = now.1.begins in
    let one : line_feeds bytes ≡ line_feeds now.0 + 1 =
    ap line_feeds begins.parts ∙ line_feeds-one now.1.line now.0 begins.unbroken in
    omega (arith, one, BeginsWithRecords-line_feeds version rs now.0 later now.2)

-- what is left is no longer
pub BeginsWithRecords-length : (version : ℕ) (rs : List Record) (bytes later : List ℕ)
    → BeginsWithRecords version rs later bytes → length later ≤ length bytes
BeginsWithRecords-length version [] bytes later same = omega (arith, ap length same)
BeginsWithRecords-length version (r ∷ rs) bytes later now =
    let begins = now.1.begins in
    omega (
      arith,
      ap length begins.parts,
      length-append now.1.line (10 ∷ now.0),
      BeginsWithRecords-length version rs now.0 later now.2,
    )

-- the records that lines stand for can be in a trace
pub BeginsWithRecords-sound : (version : ℕ) (rs : List Record) (bytes later : List ℕ)
    → BeginsWithRecords version rs later bytes → All (FitsIn version) rs
BeginsWithRecords-sound version [] bytes later same = λ k d h. absurd (omega arith)
BeginsWithRecords-sound version (r ∷ rs) bytes later now =
    All-cons (FitsIn version) r rs
    (line_says-sound version now.1.line r (sym now.1.says))
    (BeginsWithRecords-sound version rs now.0 later now.2)

-- lines whose records have room are read
pub IsBetween-records : (known : Option (List ℕ)) (n : ℕ) (kept : TraceView) (rs : List Record)
    (later bytes more : List ℕ) (left : Option (List ℕ))
    → 2 ≤ n → BeginsWithRecords kept.version rs later bytes → HaveRoom kept.records rs
    → IsBetweenLines known n kept (bytes ++ more) left
    → IsBetweenLines known (n + length rs)
    (record { version = kept.version; records = kept.records ++ rs }) (later ++ more) left
IsBetween-records known n kept [] later bytes more left low same room now =
    let none : n + 0 ≡ n = omega arith in
    rw (none, append-nil kept.records) (rw same at now)
IsBetween-records known n kept (r ∷ rs) later bytes more left low begins room now =
    let after : TraceView = record { version = kept.version; records = kept.records ++ r ∷ [] } in
    let one =
    IsBetween-record known n kept r begins.0 bytes more left (λ same. absurd (omega arith)) begins.1
    room.0 now in
    let all =
    IsBetween-records known (n + 1) after rs later begins.0 more left (omega arith) begins.2 room.1 one in
    let count : n + length (r ∷ rs) ≡ n + 1 + length rs = omega arith in
    rw (count, ← append_assoc kept.records (r ∷ []) rs) all

-- ---- the first line of a piece

-- the first line and what follows it
pub begins_line : (rest : List ℕ) (len : ℕ) → LineFeedAt rest (Some len) → len ≤ max_line
    → BeginsWith (take len rest) (drop (len + 1) rest) rest
begins_line rest len at short = record {
  unbroken = unbroken-before rest len at;
  short = omega (arith, length-take len rest);
  parts = window-parts rest len at;
}

pub begins_long : (rest : List ℕ) (len : ℕ) → LineFeedAt rest (Some len) → max_line < len → BeginsTooLong rest
begins_long rest len at long =
    let within : max_line + 1 ≤ length rest = omega (arith, at.0.high) in
    record {
      front = take (max_line + 1) rest;
      later = drop (max_line + 1) rest;
      unbroken =
          unbroken-front rest (max_line + 1) within
          (λ i h is. at.0.before i (omega arith) (omega arith) (eq-eqb _ _ is));
      long = omega (arith, length-take (max_line + 1) rest);
      parts = sym (take-append-drop (max_line + 1) rest);
    }

-- a line that is not too long, and stands for no record
fault_of_line : (version : ℕ) (cause : ReadCause) (rest : List ℕ) (len : ℕ) → LineFeedAt rest (Some len)
    → len ≤ max_line → line_says version (take len rest) ≡ Err cause → BeginsWithFault version cause rest
fault_of_line version cause rest len at short says = record {
  line = take len rest;
  later = drop (len + 1) rest;
  begins = begins_line rest len at short;
  says = says;
}

-- why the text of a line gives no record
pub fault_of_text : (version : ℕ) (cause : ReadCause) (rest : List ℕ) (len : ℕ) → LineFeedAt rest (Some len)
    → len ≤ max_line → (cause ≢ Memory → line_says version (take len rest) ≡ Err cause)
    → IsFaultOf version cause rest
fault_of_text version Memory rest len at short says = tt
fault_of_text version LineTooLong rest len at short says =
    absurd
    (no_text_cause 2 (record { version = version; records = [] }) LineTooLong rest
    (λ same. absurd (omega arith)) (fault_of_line version LineTooLong rest len at short (says (λ same. cc))))
fault_of_text version Device rest len at short says =
    fault_of_line version Device rest len at short (says (λ same. cc))
fault_of_text version Header rest len at short says =
    fault_of_line version Header rest len at short (says (λ same. cc))
fault_of_text version NotJson rest len at short says =
    fault_of_line version NotJson rest len at short (says (λ same. cc))
fault_of_text version Field rest len at short says =
    fault_of_line version Field rest len at short (says (λ same. cc))
fault_of_text version Limit rest len at short says =
    fault_of_line version Limit rest len at short (says (λ same. cc))
fault_of_text version Unended rest len at short says =
    fault_of_line version Unended rest len at short (says (λ same. cc))
fault_of_text version TurnsSpent rest len at short says =
    fault_of_line version TurnsSpent rest len at short (says (λ same. cc))

-- a line more of a piece
pub BeginsWithRecords-more : (version : ℕ) (text : List ℕ) (start len : ℕ) (rs : List Record) (r : Record)
    → BeginsWithRecords version rs (drop start text) text
    → BeginsWithRecord version r (drop len (drop start text)) (drop start text)
    → BeginsWithRecords version (rs ++ r ∷ []) (drop (start + len) text) text
BeginsWithRecords-more version text start len rs r read begins =
    BeginsWithRecords-append version rs (r ∷ []) text (drop start text) (drop (start + len) text) read
    (drop len (drop start text), begins, drop-drop len start text)

-- ---- all pieces

pub AreJudged-from : (version : ℕ) (bytes : List ℕ) (start : ℕ) (cuts : List ℕ) (pieces : List Piece)
    → ArePieces bytes start cuts (length bytes) → length pieces ≡ length cuts
    → ((i : ℕ) (d : Piece) → i < length cuts
    → IsPieceJudged version (slice_range bytes (get_or (start ∷ cuts) i 0) (get_or cuts i 0))
    (get_or pieces i d))
    → AreJudged version pieces (drop start bytes)
AreJudged-from version bytes start [] [] cut same each = drop_all start bytes (omega arith)
AreJudged-from version bytes start [] (p ∷ pieces) cut same each = absurd (omega arith)
AreJudged-from version bytes start (c ∷ cuts) [] cut same each = absurd (omega arith)
AreJudged-from version bytes start (c ∷ cuts) (p ∷ pieces) cut same each =
    let there : start + (c - start) ≡ c = omega (arith, cut.0.low) in (
      slice_range bytes start c,
      drop c bytes,
      sym (take-append-drop (c - start) (drop start bytes))
          ∙ ap (λ (xs : List ℕ). slice_range bytes start c ++ xs)
          (drop-drop (c - start) start bytes ∙ ap (λ n. drop n bytes) there),
      each 0 p (omega arith),
      AreJudged-from version bytes c cuts pieces cut.1 (omega arith) (λ i d h. each (suc i) d (omega arith)),
    )

-- the same of all pieces that cuts make
pub AreJudged-cuts : (version : ℕ) (bytes cuts : List ℕ) (pieces : List Piece) → AreCuts bytes cuts
    → length pieces ≡ length cuts - 1
    → ((i : ℕ) (d : Piece) → i < length cuts - 1
    → IsPieceJudged version (slice_range bytes (get_or cuts i 0) (get_or cuts (i + 1) 0))
    (get_or pieces i d))
    → AreJudged version pieces bytes
AreJudged-cuts version bytes [] pieces cut same each = absurd cut
AreJudged-cuts version bytes (start ∷ cuts) pieces cut same each =
    let begin : start ≡ 0 = cut.0 in
    let each_one : (i : ℕ) (d : Piece) → i < length cuts
    → IsPieceJudged version (slice_range bytes (get_or (start ∷ cuts) i 0) (get_or cuts i 0))
    (get_or pieces i d) =
    λ i d h. (rw add-one at (each i d (omega arith))) in
    let all : AreJudged version pieces (drop start bytes) =
    AreJudged-from version bytes start cuts pieces cut.1 (omega arith) each_one in
    rw begin at all

-- ---- the header

adds_header : (n : ℕ) (kept : TraceView) (line : List ℕ) → n ≡ 1
    → text_adds newest_version n kept line ≡ with_header (header_says newest_version line)
adds_header n kept line first = let is : (n == 1) ≡ true = eq-eqb n 1 first in rw is refl

pub header_taken : (known : Option (List ℕ)) (n : ℕ) (kept after : TraceView) (text more : List ℕ) (len : ℕ)
    (left : Option (List ℕ))
    → n ≡ 1 → LineFeedAt text (Some len) → len ≤ max_line
    → Ok after ≡ with_header (header_says newest_version (take len text))
    → IsBetweenLines known n kept (text ++ more) left
    → IsBetweenLines known 2 after (drop (len + 1) text ++ more) left
header_taken known n kept after text more len left first at short says now =
    let next : n + 1 ≡ 2 = omega arith in
    let there =
    IsBetween-text known n kept after (take len text) (drop (len + 1) text) text more left
    (begins_line text len at short) (adds_header n kept (take len text) first ∙ sym says) now in
    rw next at there

-- a fault that a text has is told
told_text : (known : Option (List ℕ)) (n room : ℕ) (cause : ReadCause) (left : Option (List ℕ))
    → IsTextCause cause → IfSome known (λ all. said (traces newest_version) all ≡ Err (fault_in n cause))
    → IfSome known (λ all. IsToldWithin room cause n all left)
told_text known n room Header left is told = told
told_text known n room NotJson left is told = told
told_text known n room Field left is told = told
told_text known n room Limit left is told = told
told_text known n room Device left is told = absurd is
told_text known n room Memory left is told = absurd is
told_text known n room LineTooLong left is told = absurd is
told_text known n room Unended left is told = absurd is
told_text known n room TurnsSpent left is told = absurd is

pub header_fault : (known : Option (List ℕ)) (n room : ℕ) (kept : TraceView) (cause : ReadCause)
    (text more : List ℕ) (len : ℕ) (left : Option (List ℕ))
    → n ≡ 1 → LineFeedAt text (Some len) → len ≤ max_line → length (text ++ more) ≤ room
    → (◌≢◌ {A = Result TraceView ReadCause} (Err cause) (Err Memory)
    → Err cause ≡ with_header (header_says newest_version (take len text)))
    → IsBetweenLines known n kept (text ++ more) left
    → IfSome known (λ all. IsToldWithin room cause n all left)
header_fault known n room kept cause text more len left first at short few says now = by cause refl
  where
    told : (e : ReadCause) → cause ≡ e → (e ≡ Memory → ⊥)
        → IfSome known (λ all. IsToldWithin room cause n all left)
    told e same other =
        let says_so = says (λ memory. other (let h : e ≡ Memory = cc in h)) in
        let adds : text_adds newest_version n kept (take len text) ≡ Err cause =
        adds_header n kept (take len text) first ∙ sym says_so in
        told_text known n room cause left
        (traces-text_causes newest_version n kept (take len text) cause (sym adds))
        (line_faulty known n kept cause (take len text) (drop (len + 1) text) text more left
        (begins_line text len at short) adds now)

    by : (e : ReadCause) → cause ≡ e → IfSome known (λ all. IsToldWithin room cause n all left)
    by Memory same =
        subst (λ (e : ReadCause). IfSome known (λ all. IsToldWithin room e n all left)) (sym same)
        (no_memory known n room kept (text ++ more) left few now)
    by Device same = told Device same (λ is. cc)
    by Header same = told Header same (λ is. cc)
    by LineTooLong same = told LineTooLong same (λ is. cc)
    by NotJson same = told NotJson same (λ is. cc)
    by Field same = told Field same (λ is. cc)
    by Limit same = told Limit same (λ is. cc)
    by Unended same = told Unended same (λ is. cc)
    by TurnsSpent same = told TurnsSpent same (λ is. cc)
