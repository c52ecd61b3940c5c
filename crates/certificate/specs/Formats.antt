-- What the lines of a file stand for, one after another, up to the first faulty one: the same of every format
-- of lines, whatever its lines add to.
use Rattle.std.specs.Prelude.{ℕ, ◌+◌, ◌==◌, Bool, List, [], ◌∷◌, length, Result, Ok, Err, count_by, nat_lt}
use Rattle.std.specs.Prelude.{if◌then◌else◌}
use Rattle.lines.specs.declared.cause.ReadCause.{ReadCause}
use Rattle.lines.specs.declared.cause.ReadCause.TheVariants.{Header, LineTooLong, Unended}
use Rattle.certificate.specs.declared.faults.ReadFault.{ReadFault}
use Rattle.lines.specs.Limits.{max_line}

-- the lines that a line feed ends, without it, and the bytes after the last one
pub record Cut : Type 0 where
  pub lines : List (List ℕ)
  pub rest : List ℕ

-- a byte more at the front of the first line
abbrev pub with_byte : ℕ → List (List ℕ) → List ℕ → Cut
with_byte b [] rest = record { lines = []; rest = b ∷ rest }
with_byte b (line ∷ lines) rest = record { lines = (b ∷ line) ∷ lines; rest = rest }

unfoldable pub cut : List ℕ → Cut
cut [] = record { lines = []; rest = [] }
cut (b ∷ bytes) =
    let later = cut bytes in
    if b == 10 then record { lines = [] ∷ later.lines; rest = later.rest }
    else with_byte b later.lines later.rest

-- how many line feeds there are
abbrev pub line_feeds : List ℕ → ℕ
line_feeds bytes = count_by (λ b. b == 10) bytes

-- more than a line may have before its line feed
abbrev pub is_long : List ℕ → Bool
is_long line = nat_lt max_line (length line)

abbrev pub fault_in : ℕ → ReadCause → ReadFault
fault_in n cause = record { line = n; cause = cause }

-- what comes before any line, and what the text of the line of a number, which is not too long, makes of
-- what comes before it
pub record Format (X : Type 0) : Type 0 where
  pub first : X
  pub adds : ℕ → X → List ℕ → Result X ReadCause

-- what any line makes of what comes before it
abbrev pub line_adds : {X : Type 0} → Format X → ℕ → X → List ℕ → Result X ReadCause
line_adds format n before line = if is_long line then Err LineTooLong else format.adds n before line

-- what a file stands for that ends with these bytes, which no line feed ends, in the line of number n
abbrev pub end_adds : {X : Type 0} → ℕ → X → List ℕ → Result X ReadCause
end_adds n before rest =
    if is_long rest then Err LineTooLong
    else if nat_lt 0 (length rest) then Err Unended
    else if n == 1 then Err Header
    else Ok before

-- a step after which more may follow
abbrev pub go_on : {X : Type 0} → ℕ → Result X ReadCause → (X → Result X ReadFault) → Result X ReadFault
go_on n (Err cause) next = Err (fault_in n cause)
go_on n (Ok after) next = next after

-- what the lines from number n on stand for, when this comes before them
unfoldable pub from_line : {X : Type 0} → Format X → ℕ → X → List (List ℕ) → List ℕ → Result X ReadFault
from_line format n before [] rest = go_on n (end_adds n before rest) Ok
from_line format n before (line ∷ lines) rest =
    go_on n (line_adds format n before line) (λ after. from_line format (n + 1) after lines rest)

-- what the bytes of the lines from number n on stand for
abbrev pub rest_says : {X : Type 0} → Format X → ℕ → X → List ℕ → Result X ReadFault
rest_says format n before bytes = from_line format n before (cut bytes).lines (cut bytes).rest

-- what a file of these bytes stands for, or its first faulty line and the cause
abbrev pub said : {X : Type 0} → Format X → List ℕ → Result X ReadFault
said format bytes = rest_says format 1 format.first bytes
