-- What holds of a block of bytes, and of the bytes of its whole lines.
use Rattle.std.specs.Prelude.{◌≡◌, ℕ, ◌≤◌, List, [], ◌∷◌, length, take, drop, slice_range}
use Rattle.std.specs.Prelude.{None}
use Rattle.lines.specs.declared.cause.ReadCause.{ReadCause}
use Rattle.lines.specs.declared.cause.ReadCause.TheVariants.{Device, Memory, TurnsSpent}
use Rattle.certificate.specs.Windows.{LineFeedAt}
use Rattle.certificate.specs.Pieces.{IsWholeLines}

-- the bytes of a block, how many are free after them, and how many it may have
pub record BlockView : Type 0 where
  pub waiting : List ℕ
  pub free : ℕ
  pub limit : ℕ

-- the bytes up to end are in the block, of at most this many
pub record IsBlock (size end limit : ℕ) : Type 0 where
  pub within : end ≤ size
  pub few : size ≤ limit

-- why no more bytes are taken, before the block is full or the source has ended
abbrev pub IsFillFault : ReadCause → Type 0
IsFillFault Device = Unit {0}
IsFillFault TurnsSpent = Unit {0}
IsFillFault Memory = Unit {0}
IsFillFault _ = ⊥

-- this many bytes are those of whole lines, and no line feed follows
pub record AreWholeLines (count : ℕ) (bytes : List ℕ) : Type 0 where
  pub within : count ≤ length bytes
  pub whole : IsWholeLines (take count bytes)
  pub none : LineFeedAt (drop count bytes) None

-- whole lines of the bytes, from here to there
pub record IsPiece (bytes : List ℕ) (start end : ℕ) : Type 0 where
  pub low : start ≤ end
  pub high : end ≤ length bytes
  pub whole : IsWholeLines (slice_range bytes start end)

-- one piece after another, each from where the one before it ends
abbrev pub ArePieces : List ℕ → ℕ → List ℕ → ℕ → Type 0
ArePieces bytes start [] end = start ≡ end
ArePieces bytes start (cut ∷ cuts) end = IsPiece bytes start cut × ArePieces bytes cut cuts end

-- all bytes are cut into pieces: here the first begins, and each ends where the next one begins
abbrev pub AreCuts : List ℕ → List ℕ → Type 0
AreCuts bytes [] = ⊥
AreCuts bytes (start ∷ cuts) = (start ≡ 0) × ArePieces bytes start cuts (length bytes)
