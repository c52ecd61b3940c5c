-- How pieces are put together after what was kept before them.
use Rattle.std.proofs.Common.{◌≡◌, ℕ, ◌+◌, ◌≤◌, List, [], ◌∷◌, ◌++◌, length, Option, Some, None, Result, Ok}
use Rattle.std.proofs.Common.{Err, arith, refl, sym, ap, ◌∙◌, subst, append-nil, append_assoc, length-append}
use Rattle.std.specs.Prelude.{All, IfSome, OnOk}
use Rattle.std.specs.Result.{result_err}
use Rattle.ompt_events.specs.declared.records.Record.{Record}
use Rattle.ompt_events.specs.Traces.{TraceView, FitsIn}
use Rattle.lines.specs.declared.cause.ReadCause.{ReadCause}
use Rattle.lines.specs.declared.cause.ReadCause.TheVariants.{Device, Memory, Header, LineTooLong}
use Rattle.lines.specs.declared.cause.ReadCause.TheVariants.{NotJson, Field, Limit, Unended}
use Rattle.lines.specs.declared.cause.ReadCause.TheVariants.{TurnsSpent}
use Rattle.certificate.specs.declared.pieces.Piece.{Piece}
use Rattle.certificate.specs.Formats.{line_feeds}
use Rattle.certificate.specs.Keeping.{HaveRoom, IsWhyNot, KeepsFirst}
use Rattle.certificate.specs.Pieces.{BeginsWithRecords, AreRecordsOf, IsPieceJudged, AreJudged}
use Rattle.certificate.specs.ReadingOn.{IsBetweenLines, IsToldWithin, IsJudgedUpTo}
use Rattle.certificate.proofs.ReadingLemmas.{line_feeds-append}
use Rattle.certificate.proofs.PieceLemmas.{BeginsWithRecords-split, BeginsWithRecords-length}
use Rattle.certificate.proofs.PieceLemmas.{BeginsWithRecords-line_feeds, BeginsWithRecords-sound}
use Rattle.certificate.proofs.PieceLemmas.{IsBetween-records, no_room_line, no_memory, piece_fault}

-- ---- one piece

-- the lines of all records of a piece
record Lines (version : ℕ) (bytes : List ℕ) (rs : List Record) : Type 0 where
  later : List ℕ
  begins : BeginsWithRecords version rs later bytes

lines_of : (version : ℕ) (bytes : List ℕ) (rs : List Record) (fault : Option ReadCause)
    → AreRecordsOf version bytes rs fault → Lines version bytes rs
lines_of version bytes rs None read = record { later = []; begins = read }
lines_of version bytes rs (Some cause) read = record { later = read.0; begins = read.1 }

-- why no more records of a piece are kept, told of the line of the first one that is not
why_told : (known : Option (List ℕ)) (n room : ℕ) (kept : TraceView) (cause : ReadCause) (rest : List Record)
    (later bytes more : List ℕ) (left : Option (List ℕ))
    → 2 ≤ n → length (bytes ++ more) ≤ room → IsWhyNot (Some cause) kept.records rest
    → BeginsWithRecords kept.version rest later bytes
    → IsBetweenLines known n kept (bytes ++ more) left
    → IfSome known (λ all. IsToldWithin room cause n all left)
why_told known n room kept Memory rest later bytes more left low few why begins now =
    no_memory known n room kept (bytes ++ more) left few now
why_told known n room kept Limit rest later bytes more left low few why begins now =
    let lines = subst (λ (rs : List Record). BeginsWithRecords kept.version rs later bytes) why.2 begins in
    no_room_line known n kept why.0 lines.0 bytes more left (λ same. absurd (omega arith)) lines.1 why.3 now
why_told known n room kept Device rest later bytes more left low few why begins now = absurd why
why_told known n room kept Header rest later bytes more left low few why begins now = absurd why
why_told known n room kept LineTooLong rest later bytes more left low few why begins now = absurd why
why_told known n room kept NotJson rest later bytes more left low few why begins now = absurd why
why_told known n room kept Field rest later bytes more left low few why begins now = absurd why
why_told known n room kept Unended rest later bytes more left low few why begins now = absurd why
why_told known n room kept TurnsSpent rest later bytes more left low few why begins now = absurd why

-- not all records of a piece are kept
pub kept_some : (known : Option (List ℕ)) (n room count : ℕ) (old new : TraceView) (rs : List Record)
    (fault : Option ReadCause) (cause : ReadCause) (bytes more : List ℕ) (left : Option (List ℕ))
    → 2 ≤ n → KeepsFirst old rs count (Some cause) new → AreRecordsOf old.version bytes rs fault
    → length (bytes ++ more) ≤ room
    → IsBetweenLines known n old (bytes ++ more) left
    → IfSome known (λ all. IsToldWithin room cause (n + count) all left)
kept_some known n room count old new rs fault cause bytes more left low keeps read few now =
    let lines = lines_of old.version bytes rs fault read in
    let all =
    BeginsWithRecords-split old.version keeps.first keeps.rest bytes lines.later
    (subst (λ (xs : List Record). BeginsWithRecords old.version xs lines.later bytes) keeps.parts
    lines.begins) in
    let there = IsBetween-records known n old keeps.first all.0 bytes more left low all.1 keeps.room now in
    let shorter = BeginsWithRecords-length old.version keeps.first bytes all.0 all.1 in
    let few_left : length (all.0 ++ more) ≤ room =
    omega (arith, length-append bytes more, length-append all.0 more) in
    let told =
    why_told known (n + length keeps.first) room
    (record { version = old.version; records = old.records ++ keeps.first }) cause keeps.rest
    lines.later all.0 more left (omega arith) few_left keeps.why_not all.2 there in
    rw keeps.counted told

-- all records of a piece are kept
record KeptAll (old : TraceView) (rs : List Record) (count : ℕ) (new : TraceView) : Type 0 where
  all : count ≡ length rs
  room : HaveRoom old.records rs
  kept : new ≡ record { version = old.version; records = old.records ++ rs }

kept_all : (old new : TraceView) (rs : List Record) (count : ℕ) → KeepsFirst old rs count None new
    → KeptAll old rs count new
kept_all old new rs count keeps =
    let same : keeps.first ≡ rs =
    sym
    (keeps.parts ∙ ap (λ (xs : List Record). keeps.first ++ xs) keeps.why_not
    ∙ append-nil keeps.first) in
    record {
      all = keeps.counted ∙ ap length same;
      room = rw same at keeps.room;
      kept = rw same at (keeps.kept refl);
    }

pub kept_whole : (known : Option (List ℕ)) (n count : ℕ) (old new : TraceView) (rs : List Record)
    (bytes more : List ℕ) (left : Option (List ℕ))
    → 2 ≤ n → KeepsFirst old rs count None new → AreRecordsOf old.version bytes rs None
    → IsBetweenLines known n old (bytes ++ more) left → IsBetweenLines known (n + count) new more left
kept_whole known n count old new rs bytes more left low keeps read now =
    let all = kept_all old new rs count keeps in
    rw (all.all, all.kept) (IsBetween-records known n old rs [] bytes more left low read all.room now)

pub kept_fault : (known : Option (List ℕ)) (n room count : ℕ) (old new : TraceView) (rs : List Record)
    (cause : ReadCause) (bytes more : List ℕ) (left : Option (List ℕ))
    → 2 ≤ n → KeepsFirst old rs count None new → AreRecordsOf old.version bytes rs (Some cause)
    → length (bytes ++ more) ≤ room
    → IsBetweenLines known n old (bytes ++ more) left
    → IfSome known (λ all. IsToldWithin room cause (n + count) all left)
kept_fault known n room count old new rs cause bytes more left low keeps read few now =
    let all = kept_all old new rs count keeps in
    let there = IsBetween-records known n old rs read.0 bytes more left low read.1 all.room now in
    let shorter = BeginsWithRecords-length old.version rs bytes read.0 read.1 in
    let few_left : length (read.0 ++ more) ≤ room =
    omega (arith, length-append bytes more, length-append read.0 more) in
    rw all.all
    (piece_fault known (n + length rs) room
    (record { version = old.version; records = old.records ++ rs }) cause read.0 more left
    (λ same. absurd (omega arith)) few_left read.2 there)

-- as many lines as line feeds
pub kept_lines : (count : ℕ) (old new : TraceView) (rs : List Record) (bytes : List ℕ)
    → KeepsFirst old rs count None new → AreRecordsOf old.version bytes rs None → count ≡ line_feeds bytes
kept_lines count old new rs bytes keeps read =
    let all = kept_all old new rs count keeps in
    omega (arith, all.all, BeginsWithRecords-line_feeds old.version rs bytes [] read)

-- the answer after all records of a piece are kept
pub piece_told : (known : Option (List ℕ)) (n room count : ℕ) (old new : TraceView) (rs : List Record)
    (fault : Option ReadCause) (r : Result (Unit {0}) ReadCause) (bytes more : List ℕ)
    (left : Option (List ℕ))
    → 2 ≤ n → KeepsFirst old rs count None new → fault ≡ result_err r
    → AreRecordsOf old.version bytes rs fault → length (bytes ++ more) ≤ room
    → IsBetweenLines known n old (bytes ++ more) left → IsJudgedUpTo r known (n + count) new more room left
piece_told known n room count old new rs fault (Ok u) bytes more left low keeps same read few now =
    kept_whole known n count old new rs bytes more left low keeps
    (subst (λ (f : Option ReadCause). AreRecordsOf old.version bytes rs f) same read) now
piece_told known n room count old new rs fault (Err cause) bytes more left low keeps same read few now =
    kept_fault known n room count old new rs cause bytes more left low keeps
    (subst (λ (f : Option ReadCause). AreRecordsOf old.version bytes rs f) same read) few now

pub piece_lines : (n count : ℕ) (old new : TraceView) (piece : Piece) (r : Result (Unit {0}) ReadCause)
    → KeepsFirst old piece.records.items count None new → piece.fault ≡ result_err r
    → OnOk r ((bytes : List ℕ) → IsPieceJudged old.version bytes piece → n + count ≡ n + line_feeds bytes)
piece_lines n count old new piece (Err cause) keeps same = tt
piece_lines n count old new piece (Ok u) keeps same = λ bytes judged.
    ap (λ k. n + k)
    (kept_lines count old new piece.records.items bytes keeps
    (subst (λ (f : Option ReadCause). AreRecordsOf old.version bytes piece.records.items f) same
    judged.read))

-- the records of a piece can stand in the file
pub piece_sound : (version : ℕ) (bytes : List ℕ) (rs : List Record) (fault : Option ReadCause)
    → AreRecordsOf version bytes rs fault → All (FitsIn version) rs
piece_sound version bytes rs fault read =
    let lines = lines_of version bytes rs fault read in
    BeginsWithRecords-sound version rs bytes lines.later lines.begins

-- ---- all pieces

-- of the bytes that waited before line n, these are left before line n', and they are those of these pieces
pub record Joins (n : ℕ) (kept : TraceView) (bytes : List ℕ) (n' : ℕ) (kept' : TraceView)
    (pieces : List Piece) : Type 0 where
  pub later : List ℕ
  pub judged : AreJudged kept'.version pieces later
  pub shorter : length later ≤ length bytes
  pub lines : n' + line_feeds later ≡ n + line_feeds bytes
  pub between : (more : List ℕ) (known left : Option (List ℕ))
      → IsBetweenLines known n kept (bytes ++ more) left → IsBetweenLines known n' kept' (later ++ more) left

-- one piece more
pub Joins-piece : (n : ℕ) (kept : TraceView) (bytes : List ℕ) (n' n'' : ℕ) (kept' kept'' : TraceView)
    (piece : Piece) (pieces : List Piece)
    → kept''.version ≡ kept'.version
    → ((front : List ℕ) → IsPieceJudged kept'.version front piece → n'' ≡ n' + line_feeds front)
    → ((front more : List ℕ) (known left : Option (List ℕ)) (room : ℕ)
    → IsPieceJudged kept'.version front piece
    → length (front ++ more) ≤ room → IsBetweenLines known n' kept' (front ++ more) left
    → IsBetweenLines known n'' kept'' more left)
    → Joins n kept bytes n' kept' (piece ∷ pieces) → Joins n kept bytes n'' kept'' pieces
Joins-piece n kept bytes n' n'' kept' kept'' piece pieces version lines between now =
    let front = now.judged.0 in
    let later = now.judged.1 in
    let whole : now.later ≡ front ++ later = now.judged.2 in
    record {
      later = later;
      judged = rw version now.judged.4;
      shorter = omega (arith, ap length whole, length-append front later, now.shorter);
      lines =
          omega (
            arith,
            lines front now.judged.3,
            ap line_feeds whole,
            line_feeds-append front later,
            now.lines,
          );
      between = λ more known left before.
          let there : IsBetweenLines known n' kept' (front ++ (later ++ more)) left =
          rw (whole, append_assoc front later more) at (now.between more known left before) in
          between front (later ++ more) known left (length (front ++ (later ++ more))) now.judged.3
          (omega arith) there;
    }

-- what waits before the next piece is judged
pub Joins-next : (n : ℕ) (kept : TraceView) (bytes : List ℕ) (n' : ℕ) (kept' : TraceView) (piece : Piece)
    (pieces : List Piece) (more : List ℕ) (known left : Option (List ℕ)) (room : ℕ)
    → Joins n kept bytes n' kept' (piece ∷ pieces) → length (bytes ++ more) ≤ room
    → IsBetweenLines known n kept (bytes ++ more) left
    → (front : List ℕ) × (later : List ℕ) × IsPieceJudged kept'.version front piece
    × (length (front ++ (later ++ more)) ≤ room)
    × IsBetweenLines known n' kept' (front ++ (later ++ more)) left
Joins-next n kept bytes n' kept' piece pieces more known left room now few before =
    let front = now.judged.0 in
    let later = now.judged.1 in
    let whole : now.later ≡ front ++ later = now.judged.2 in
    let few_left : length (front ++ (later ++ more)) ≤ room =
    omega (
      arith,
      ap length whole,
      length-append front later,
      length-append front (later ++ more),
      length-append later more,
      length-append bytes more,
      now.shorter,
    ) in (
      front,
      later,
      now.judged.3,
      few_left,
      rw (whole, append_assoc front later more) at (now.between more known left before),
    )
