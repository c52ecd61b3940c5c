-- What a reader answers on a source whose bytes are known.
use Rattle.std.specs.Prelude.{ℕ, ◌≡◌, ◌≢◌, ◌⊎◌, ◌+◌, ◌*◌, ◌≤◌, ◌<◌, ◌==◌, Bool, true, false, List, [], ◌∷◌}
use Rattle.std.specs.Prelude.{◌++◌, length, Option, Some, None, Result, Ok, Err, IfSome, if◌then◌else◌}
use Rattle.ompt_events.specs.Limits.{max_records}
use Rattle.ompt_events.specs.Traces.{TraceView}
use Rattle.lines.specs.declared.cause.ReadCause.{ReadCause}
use Rattle.lines.specs.declared.cause.ReadCause.TheVariants.{Device, Memory, Header, NotJson, Field}
use Rattle.lines.specs.declared.cause.ReadCause.TheVariants.{Limit, TurnsSpent}
use Rattle.certificate.specs.declared.faults.ReadFault.{ReadFault}
use Rattle.certificate.specs.Limits.{newest_version}
use Rattle.lines.specs.Limits.{max_line}
use Rattle.certificate.specs.Formats.{Format, said, rest_says, fault_in, line_feeds}
use Rattle.certificate.specs.Files.{file_says_to, IsFaultlessBefore}

-- n is one more than the line feeds that were given, where these bytes are left
abbrev pub IsLineAfterGiven : ℕ → List ℕ → Option (List ℕ) → Type 0
IsLineAfterGiven n bytes None = ⊥
IsLineAfterGiven n bytes (Some left) = n + line_feeds left ≡ line_feeds bytes + 1

-- these are the lines before number n, each with its line feed
pub record AreLinesBefore (n : ℕ) (before : List ℕ) : Type 0 where
  pub count : n ≡ line_feeds before + 1
  pub ended : (before ≡ []) ⊎ ((front : List ℕ) × (before ≡ front ++ 10 ∷ []))

-- the rest of the bytes begins with the line of number n
pub record IsFromLine (n : ℕ) (bytes rest : List ℕ) : Type 0 where
  pub before : List ℕ
  pub lines : AreLinesBefore n before
  pub parts : bytes ≡ before ++ rest

-- the line of number n is being read: after the lines before it at most as many bytes were given as two of
-- the longest lines have, and among them this line with its line feed; or nothing was given yet
pub record IsBeingRead (n : ℕ) (bytes left : List ℕ) : Type 0 where
  pub waiting : List ℕ
  pub begins : IsFromLine n bytes (waiting ++ left)
  pub few : length waiting ≤ 2 * (max_line + 1)
  pub whole : (left ≡ bytes) ⊎ (0 < line_feeds waiting)

-- the line of number n is being read, where these bytes are left
abbrev pub IsLineBeingRead : ℕ → List ℕ → Option (List ℕ) → Type 0
IsLineBeingRead n bytes None = ⊥
IsLineBeingRead n bytes (Some left) = IsBeingRead n bytes left

-- ---- what is reported of a file of any format

-- no line before the one of number n has a fault: the file stands for what its bytes from that line on stand
-- for, after what the lines before it stand for
pub record IsLineReached {X : Type 0} (format : Format X) (n : ℕ) (bytes : List ℕ) : Type 0 where
  pub before : X
  pub rest : List ℕ
  pub begins : IsFromLine n bytes rest
  pub says : said format bytes ≡ rest_says format n before rest

-- a fault that is reported in the line of number n is that of the file, or one of the device or of memory
-- while that line was read, and then no line before it has a fault
abbrev pub IsToldIn : {X : Type 0} → Format X → ReadCause → ℕ → List ℕ → Option (List ℕ) → Type 0
IsToldIn format Device n bytes left = IsLineAfterGiven n bytes left × IsLineReached format n bytes
IsToldIn format TurnsSpent n bytes left = IsLineAfterGiven n bytes left × IsLineReached format n bytes
IsToldIn format Memory n bytes left = IsLineBeingRead n bytes left × IsLineReached format n bytes
IsToldIn format cause n bytes left = said format bytes ≡ Err (fault_in n cause)

-- the answer is what the bytes stand for, or a fault that is reported rightly
abbrev pub IsAnswerIn : {X : Type 0} → Format X → Result X ReadFault → List ℕ → Option (List ℕ) → Type 0
IsAnswerIn format (Ok x) bytes left = said format bytes ≡ Ok x
IsAnswerIn format (Err fault) bytes left = IsToldIn format fault.cause fault.line bytes left

-- ---- between two lines

-- the lines before number n stand for what is kept, and what they leave waits in the window and the source
abbrev pub IsBetween : {X : Type 0} → Format X → Option (List ℕ) → ℕ → X → List ℕ → Option (List ℕ) → Type 0
IsBetween format None n kept window left = Unit {0}
IsBetween format (Some bytes) n kept window None = ⊥
IsBetween format (Some bytes) n kept window (Some left) =
    (said format bytes ≡ rest_says format n kept (window ++ left))
    × IsFromLine n bytes (window ++ left)

-- after the line of number n was read: there was one, there was none, or it has a fault
abbrev pub IsAfter : {X : Type 0} → Format X → Result Bool ReadCause → Option (List ℕ) → ℕ → X → List ℕ
    → Option (List ℕ) → Type 0
IsAfter format (Ok true) known n kept window left = IsBetween format known (n + 1) kept window left
IsAfter format (Ok false) known n kept window left = IfSome known (λ bytes. said format bytes ≡ Ok kept)
IsAfter format (Err cause) known n kept window left =
    IfSome known (λ bytes. IsToldIn format cause n bytes left)

-- a cause that the text of a line has
abbrev pub IsTextCause : ReadCause → Type 0
IsTextCause Header = Unit {0}
IsTextCause NotJson = Unit {0}
IsTextCause Field = Unit {0}
IsTextCause Limit = Unit {0}
IsTextCause _ = ⊥

-- a cause that a line of text has, or that memory ran out for it
abbrev pub IsOfText : ReadCause → Type 0
IsOfText Memory = Unit {0}
IsOfText cause = IsTextCause cause

-- each fault of the text of a line has such a cause
abbrev pub HasTextCauses : {X : Type 0} → Format X → Type 0
HasTextCauses {X} format =
    (n : ℕ) (before : X) (line : List ℕ) (e : ReadCause) → Err e ≡ format.adds n before line → IsTextCause e

-- ---- what is reported of a trace file

-- the same as `IsToldIn` of a trace file of at most the newest version, in the words of `Files`
abbrev pub IsToldRightlyTo : ℕ → ReadCause → ℕ → List ℕ → Option (List ℕ) → Type 0
IsToldRightlyTo newest Device n bytes left =
    IsLineAfterGiven n bytes left × IsFaultlessBefore newest n bytes
IsToldRightlyTo newest TurnsSpent n bytes left =
    IsLineAfterGiven n bytes left × IsFaultlessBefore newest n bytes
IsToldRightlyTo newest Memory n bytes left =
    IsLineBeingRead n bytes left × IsFaultlessBefore newest n bytes
IsToldRightlyTo newest cause n bytes left = file_says_to newest bytes ≡ Err (fault_in n cause)

-- the answer is the trace that the bytes stand for, or a fault that is reported rightly
abbrev pub IsAnswerTo : ℕ → Result TraceView ReadFault → List ℕ → Option (List ℕ) → Type 0
IsAnswerTo newest (Ok trace) bytes left = file_says_to newest bytes ≡ Ok trace
IsAnswerTo newest (Err fault) bytes left = IsToldRightlyTo newest fault.cause fault.line bytes left

-- ---- the same for the versions that the program reads

abbrev pub IsToldRightly : ReadCause → ℕ → List ℕ → Option (List ℕ) → Type 0
IsToldRightly cause n bytes left = IsToldRightlyTo newest_version cause n bytes left

abbrev pub IsReadAnswer : Result TraceView ReadFault → List ℕ → Option (List ℕ) → Type 0
IsReadAnswer answer bytes left = IsAnswerTo newest_version answer bytes left

-- how the line of number n adds to the records or steps, where it has no fault
pub record Grows {X : Type 0} (n : ℕ) (old new : List X) : Type 0 where
  pub one : length new ≡ (if n == 1 then 0 else length old + 1)
  pub room : n ≢ 1 → length old < max_records
