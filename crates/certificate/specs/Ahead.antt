-- What a reading on several workers has in hand, before, between and after its rounds.
use Rattle.std.specs.Prelude.{ℕ, Bool, true, false, ◌≡◌, ◌+◌, ◌-◌, ◌*◌, ◌≤◌, ◌<◌, List, [], ◌∷◌, ◌++◌, length}
use Rattle.std.specs.Prelude.{Option, None, Result, Ok, Err, IfErr, IfSome, OnOk}
use Rattle.std.specs.Result.{result_err}
use Rattle.std.specs.Io.KnownBytes.{Keeps, IsAtEnd, prepend_known}
use Rattle.ompt_events.specs.Limits.{max_records}
use Rattle.lines.specs.declared.cause.ReadCause.{ReadCause}
use Rattle.certificate.specs.declared.ahead.Ahead.{Ahead}
use Rattle.certificate.specs.declared.pieces.Piece.{Piece}
use Rattle.certificate.specs.Limits.{max_turns, newest_version}
use Rattle.lines.specs.Limits.{max_line}
use Rattle.certificate.specs.Counts.{TakesTurns, breaks_told}
use Rattle.certificate.specs.Formats.{line_feeds, said}
use Rattle.certificate.specs.Files.{no_trace, traces}
use Rattle.certificate.specs.Pieces.{IsWholeLines, AreJudged}
use Rattle.certificate.specs.Windows.{LineFeedAt}
use Rattle.certificate.specs.Blocks.{BlockView, IsFillFault}
use Rattle.certificate.specs.ReadingOn.{IsBetweenLines, IsToldWithin, IsJudgedUpTo, IsLineCounted}
use Rattle.certificate.specs.ReadingOn.{IsLineFault}

-- nothing was read, and the block has room for this many bytes
pub record IsFirst {L : Type 0} (room : ℕ) (ahead : Ahead L) : Type 0 where
  pub line : ahead.line ≡ 1
  pub kept : ahead.kept ≡ no_trace
  pub pieces : ahead.pieces.items ≡ []
  pub waiting : ahead.block.waiting ≡ []
  pub limit : ahead.block.limit ≡ room
  pub turns : ahead.turns ≡ 0

-- these pieces stand for bytes, and any piece for at least one line
pub record ArePending (version : ℕ) (pieces : List Piece) : Type 0 where
  pub bytes : List ℕ
  pub judged : AreJudged version pieces bytes
  pub some : 0 < length pieces → 0 < line_feeds bytes

-- these pieces stand for the bytes of whole lines
pub record AreJudgedOf (version : ℕ) (pieces : List Piece) (bytes : List ℕ) : Type 0 where
  pub judged : AreJudged version pieces bytes
  pub none : pieces ≡ [] → bytes ≡ []
  pub some : 0 < length pieces → 0 < line_feeds bytes

-- the header was taken, and one record is kept for each line after it that was added
pub record IsInHand {L : Type 0} (ahead : Ahead L) : Type 0 where
  pub low : 2 ≤ ahead.line
  pub high : ahead.line ≤ max_records + 2
  pub counted : IsLineCounted ahead.line ahead.kept
  pub version : ahead.kept.version ≤ newest_version
  pub pending : ArePending ahead.kept.version ahead.pieces.items
  pub met : IfErr ahead.filled IsFillFault

-- where the source is read again, it may give more and has turns left
abbrev pub CanAsk : {L : Type 0} → Ahead L → Type 0
CanAsk ahead = ahead.asks ≡ true → (ahead.filled ≡ Ok true) × (ahead.turns ≤ max_turns)

-- between two rounds: whole lines are in front, and no line feed follows them. Where the source may give
-- more and is not read again, the line there is too long
pub record IsRoundReady {L : Type 0} (front : BlockView) (ahead : Ahead L) : Type 0 where
  pub in_hand : IsInHand ahead
  pub can_ask : CanAsk ahead
  pub whole : IsWholeLines front.waiting
  pub none : LineFeedAt ahead.block.waiting None
  pub limit : front.limit ≡ ahead.block.limit
  pub long : max_line < front.limit
  pub rests : ahead.asks ≡ false → ahead.filled ≡ Ok true → max_line < length ahead.block.waiting

-- what is left: the pieces that were judged, these bytes, and those of the block after them
pub record Waits {L : Type 0} (known left : Option (List ℕ)) (room : ℕ) (front : List ℕ) (ahead : Ahead L)
    : Type 0 where
  pub bytes : List ℕ
  pub judged : AreJudged ahead.kept.version ahead.pieces.items bytes
  pub between : IsBetweenLines known ahead.line ahead.kept (bytes ++ (front ++ ahead.block.waiting)) left
  pub few : length (bytes ++ (front ++ ahead.block.waiting)) ≤ room
  pub end : ahead.filled ≡ Ok false → IsAtEnd left

-- the line that comes next has this fault
abbrev pub IsToldNext : {L : Type 0} → ReadCause → Option (List ℕ) → Option (List ℕ) → ℕ → Ahead L → Type 0
IsToldNext cause known left room ahead = IfSome known (λ bytes. IsToldWithin room cause ahead.line bytes left)

-- after a step: that waits which did, or the line that comes next has a fault
abbrev pub IsAfterStep : {L : Type 0} → Result (Unit {0}) ReadCause → Option (List ℕ) → Option (List ℕ) → ℕ
    → List ℕ → Ahead L → Type 0
IsAfterStep (Ok _) known left room front ahead = Waits known left room front ahead
IsAfterStep (Err cause) known left room front ahead = IsToldNext cause known left room ahead

-- after a round: more may come, all is read, or the line that comes next has a fault
abbrev pub IsAfterRound : {L : Type 0} → Result Bool ReadCause → Option (List ℕ) → Option (List ℕ) → ℕ
    → List ℕ → Ahead L → Type 0
IsAfterRound (Ok true) known left room front ahead = Waits known left room front ahead
IsAfterRound (Ok false) known left room front ahead =
    IfSome known (λ bytes. said (traces newest_version) bytes ≡ Ok ahead.kept)
IsAfterRound (Err cause) known left room front ahead = IsToldNext cause known left room ahead

-- how many rounds may still come. The first two add no line
abbrev pub rounds_behind : Bool → List Piece → List ℕ → ℕ
rounds_behind false pieces front = 0
rounds_behind true (piece ∷ pieces) front = 1
rounds_behind true [] (b ∷ front) = 2
rounds_behind true [] [] = 3

abbrev pub rounds_left : {L : Type 0} → List ℕ → Ahead L → ℕ
rounds_left front ahead =
    4 * (max_records + 3 - ahead.line) + rounds_behind ahead.asks ahead.pieces.items front

-- ---- the steps of a round

-- the turns, the answers of the source, and what waits of it are the same
pub record SameSource {L : Type 0} (old new : Ahead L) : Type 0 where
  pub block : new.block ≡ old.block
  pub turns : new.turns ≡ old.turns
  pub filled : new.filled ≡ old.filled
  pub asks : new.asks ≡ old.asks

-- the lines that were added, and the pieces that were judged are the same
pub record SameLines {L : Type 0} (old new : Ahead L) : Type 0 where
  pub line : new.line ≡ old.line
  pub kept : new.kept ≡ old.kept
  pub pieces : new.pieces ≡ old.pieces

-- the pieces were added, up to the first fault
pub record ArePiecesAdded {L : Type 0} (result : Result (Unit {0}) ReadCause) (old new : Ahead L)
    : Type 0 where
  pub between : (bytes more : List ℕ) (known left : Option (List ℕ)) (room : ℕ)
      → AreJudged old.kept.version old.pieces.items bytes → length (bytes ++ more) ≤ room
      → IsBetweenLines known old.line old.kept (bytes ++ more) left
      → IsJudgedUpTo result known new.line new.kept more room left
  pub lines : OnOk result ((bytes : List ℕ) → AreJudged old.kept.version old.pieces.items bytes
      → new.line ≡ old.line + line_feeds bytes)
  pub later : old.line ≤ new.line
  pub last : new.line ≤ max_records + 2
  pub counted : OnOk result (IsLineCounted new.line new.kept)
  pub version : OnOk result (new.kept.version ≡ old.kept.version)
  pub fault : IfErr result IsLineFault

-- the block was filled, where the source is read again
pub record IsRefilled {L : Type 0} (old new : Ahead L) (left left' : Option (List ℕ)) : Type 0 where
  pub lines : SameLines old new
  pub asks : new.asks ≡ old.asks
  pub keeps : Keeps (prepend_known old.block.waiting left) (prepend_known new.block.waiting left')
  pub limit : new.block.limit ≡ old.block.limit
  pub unasked : old.asks ≡ false → SameSource old new × (left' ≡ left)
  pub few : old.asks ≡ true → length new.block.waiting ≤ new.block.limit
  pub full : old.asks ≡ true → new.filled ≡ Ok true → length new.block.waiting ≡ new.block.limit
  pub end : old.asks ≡ true → new.filled ≡ Ok false → IsAtEnd left'
  pub met : IfErr new.filled IsFillFault
  pub turns : old.asks ≡ true → new.filled ≡ Ok true → new.turns ≤ max_turns

-- what the calling thread did while lines were judged: the pieces before them were added, and then the
-- block was filled
abbrev pub WorkedBeside : {L : Type 0} → Result (Unit {0}) ReadCause → Ahead L → Ahead L → Option (List ℕ)
    → Option (List ℕ) → Type 0
WorkedBeside {L} (Ok u) old new left left' =
    (middle : Ahead L) × ArePiecesAdded (Ok u) old middle × SameSource old middle
    × IsRefilled middle new left left'
WorkedBeside (Err cause) old new left left' =
    ArePiecesAdded (Err cause) old new × SameSource old new × (left' ≡ left)

-- what was met at the source, since it was asked first
pub record HasMet {L : Type 0} (ahead : Ahead L) (turns agains breaks agains' breaks' : ℕ) : Type 0 where
  pub taken : TakesTurns (result_err ahead.filled) turns ahead.turns agains agains'
  pub broken : breaks' ≡ breaks_told (result_err ahead.filled) breaks

abbrev pub MeetsMore : {L : Type 0} → Ahead L → Ahead L → ℕ → ℕ → ℕ → ℕ → Type 0
MeetsMore old new agains agains' breaks breaks' =
    (turns first_agains first_breaks : ℕ) → HasMet old turns first_agains first_breaks agains breaks
    → HasMet new turns first_agains first_breaks agains' breaks'

-- what was in front was judged, and the block that was filled is in front
pub record AreBlocksTurned {L : Type 0} (front : BlockView) (old : Ahead L) (front' : BlockView)
    (new : Ahead L) : Type 0 where
  pub in_hand : IsInHand new
  pub waiting : new.block.waiting ≡ []
  pub limit : (front'.limit ≡ front.limit) × (new.block.limit ≡ front.limit)
  pub asks : new.asks ≡ old.asks
  pub line : old.line ≤ new.line
  pub more : 0 < length old.pieces.items → old.line < new.line
  pub some : 0 < length front.waiting → 0 < length new.pieces.items
  pub full : old.asks ≡ true → new.filled ≡ Ok true → length front'.waiting ≡ front'.limit
  pub turns : old.asks ≡ true → new.filled ≡ Ok true → new.turns ≤ max_turns
  pub unasked : old.asks ≡ false → (front'.waiting ≡ old.block.waiting) × (new.filled ≡ old.filled)
