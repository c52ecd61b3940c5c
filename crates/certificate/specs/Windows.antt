-- What holds of a window, and what it shows of the next line.
use Rattle.std.specs.Prelude.{◌≡◌, ◌≢◌, ℕ, ◌+◌, ◌*◌, ◌≤◌, ◌<◌, List, [], length, slice_index, Option, Some}
use Rattle.std.specs.Prelude.{None}
use Rattle.std.specs.Io.KnownBytes.{IsAtEnd}
use Rattle.memchr.specs.Find.{IsFirstByte, is_byte}
use Rattle.lines.specs.Limits.{max_line}
use Rattle.lines.specs.declared.cause.ReadCause.{ReadCause}
use Rattle.lines.specs.declared.cause.ReadCause.TheVariants.{Device, LineTooLong, Unended, TurnsSpent}

-- the bytes from start to end wait, and up to searched there is no line feed among them
pub record IsWindow (bytes : List ℕ) (start searched end : ℕ) : Type 0 where
  pub low : start ≤ searched
  pub middle : searched ≤ end
  pub high : end ≤ length bytes
  pub size : length bytes ≡ 2 * (max_line + 1)
  pub no_line_feed : (k : ℕ) → start ≤ k → k < searched → slice_index bytes k ≢ 10

-- the next line feed is here, or nowhere
abbrev pub LineFeedAt : List ℕ → Option ℕ → Type 0
LineFeedAt = IsFirstByte (is_byte 10)

-- the next line has this length, or no byte is left
abbrev pub ShowsLine : Option ℕ → List ℕ → Option (List ℕ) → Type 0
ShowsLine (Some len) window rest = (len ≤ max_line) × LineFeedAt window (Some len)
ShowsLine None window rest = (window ≡ []) × IsAtEnd rest

-- the source did not answer
abbrev pub IsDeviceFault : ReadCause → Type 0
IsDeviceFault Device = Unit {0}
IsDeviceFault TurnsSpent = Unit {0}
IsDeviceFault _ = ⊥

-- why there is no next line
abbrev pub ShowsFault : ReadCause → List ℕ → Option (List ℕ) → Type 0
ShowsFault LineTooLong window rest =
    (k : ℕ) → k ≤ max_line → (k < length window) × (slice_index window k ≢ 10)
ShowsFault Unended window rest =
    (0 < length window) × (length window ≤ max_line) × LineFeedAt window None × IsAtEnd rest
ShowsFault Device window rest = LineFeedAt window None
ShowsFault TurnsSpent window rest = LineFeedAt window None
ShowsFault _ window rest = ⊥
