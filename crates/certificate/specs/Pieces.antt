-- What a piece of a file stands for: whole lines after the header, judged without counts of what is
-- before them.
use Rattle.std.specs.Prelude.{ℕ, ◌≡◌, ◌≢◌, ◌≤◌, ◌<◌, ◌⊎◌, false, ◌==◌, List, [], ◌∷◌, ◌++◌, length, drop}
use Rattle.std.specs.Prelude.{Option, Some, None, Result, Ok, Err}
use Rattle.std.specs.List.{AllByRecursion}
use Rattle.ompt_events.specs.declared.records.Record.{Record}
use Rattle.lines.specs.declared.cause.ReadCause.{ReadCause}
use Rattle.lines.specs.declared.cause.ReadCause.TheVariants.{LineTooLong, Memory}
use Rattle.certificate.specs.declared.pieces.Piece.{Piece}
use Rattle.lines.specs.Limits.{max_line}
use Rattle.lines.specs.RecordLines.{line_says}

-- no byte is a line feed
abbrev pub HasNoLineFeed : List ℕ → Type 0
HasNoLineFeed bytes = AllByRecursion (λ b. (b == 10) ≡ false) bytes

-- no bytes, or the last one is a line feed
abbrev pub IsWholeLines : List ℕ → Type 0
IsWholeLines bytes = (bytes ≡ []) ⊎ ((front : List ℕ) × (bytes ≡ front ++ 10 ∷ []))

-- the bytes begin with a line that is not too long, and after its line feed come these
pub record BeginsWith (line later bytes : List ℕ) : Type 0 where
  pub unbroken : HasNoLineFeed line
  pub short : length line ≤ max_line
  pub parts : bytes ≡ line ++ 10 ∷ later

-- the bytes begin with a line that stands for this record in a file of this version
pub record BeginsWithRecord (version : ℕ) (r : Record) (later bytes : List ℕ) : Type 0 where
  pub line : List ℕ
  pub begins : BeginsWith line later bytes
  pub says : line_says version line ≡ Ok r

-- the bytes begin with lines that stand for these records, and after them come these
abbrev pub BeginsWithRecords : ℕ → List Record → List ℕ → List ℕ → Type 0
BeginsWithRecords version [] later bytes = bytes ≡ later
BeginsWithRecords version (r ∷ rs) later bytes =
    (next : List ℕ) × BeginsWithRecord version r next bytes × BeginsWithRecords version rs later next

-- the bytes begin with a line that is too long
pub record BeginsTooLong (bytes : List ℕ) : Type 0 where
  pub front : List ℕ
  pub later : List ℕ
  pub unbroken : HasNoLineFeed front
  pub long : max_line < length front
  pub parts : bytes ≡ front ++ later

-- the bytes begin with a line that stands for no record in a file of this version, and this is why
pub record BeginsWithFault (version : ℕ) (cause : ReadCause) (bytes : List ℕ) : Type 0 where
  pub line : List ℕ
  pub later : List ℕ
  pub begins : BeginsWith line later bytes
  pub says : line_says version line ≡ Err cause

-- why the first line of the bytes gives no record: memory ran out, it is too long, or what it says
abbrev pub IsFaultOf : ℕ → ReadCause → List ℕ → Type 0
IsFaultOf version Memory bytes = Unit {0}
IsFaultOf version LineTooLong bytes = BeginsTooLong bytes
IsFaultOf version cause bytes = BeginsWithFault version cause bytes

-- the records of all lines of the bytes, or those before the first faulty line and what it has
abbrev pub AreRecordsOf : ℕ → List ℕ → List Record → Option ReadCause → Type 0
AreRecordsOf version bytes rs None = BeginsWithRecords version rs [] bytes
AreRecordsOf version bytes rs (Some cause) =
    (rest : List ℕ) × BeginsWithRecords version rs rest bytes × IsFaultOf version cause rest

-- a piece that was judged
pub record IsPieceJudged (version : ℕ) (bytes : List ℕ) (piece : Piece) : Type 0 where
  pub read : AreRecordsOf version bytes piece.records.items piece.fault

-- the piece with one record more
pub record WithRecord (r : Record) (old new : Piece) : Type 0 where
  pub records : new.records.items ≡ old.records.items ++ r ∷ []
  pub fault : new.fault ≡ old.fault

-- the same records in both
pub record SamePiece (old new : Piece) : Type 0 where
  pub records : new.records.items ≡ old.records.items
  pub fault : new.fault ≡ old.fault

-- after the text of a line was judged: its record was added, or this is why it gives none
abbrev pub TakesText : ℕ → List ℕ → Piece → Result (Unit {0}) ReadCause → Piece → Type 0
TakesText version text old (Ok _) new = (r : Record) × (line_says version text ≡ Ok r) × WithRecord r old new
TakesText version text old (Err cause) new =
    (cause ≢ Memory → line_says version text ≡ Err cause) × SamePiece old new

-- after the first line of the bytes was judged, which has this length with its line feed
abbrev pub TakesLine : ℕ → List ℕ → Piece → Result ℕ ReadCause → Piece → Type 0
TakesLine version bytes old (Ok len) new =
    (r : Record) × BeginsWithRecord version r (drop len bytes) bytes × WithRecord r old new × (0 < len)
    × (len ≤ length bytes)
TakesLine version bytes old (Err cause) new = IsFaultOf version cause bytes × SamePiece old new

-- the bytes are those of these pieces, one after another
abbrev pub AreJudged : ℕ → List Piece → List ℕ → Type 0
AreJudged version [] bytes = bytes ≡ []
AreJudged version (piece ∷ pieces) bytes =
    (front : List ℕ) × (later : List ℕ) × (bytes ≡ front ++ later) × IsPieceJudged version front piece
    × AreJudged version pieces later
