-- What a reader on several workers answers, which takes the bytes of its source by blocks.
use Rattle.std.specs.Prelude.{ℕ, ◌≡◌, ◌+◌, ◌-◌, ◌*◌, ◌≤◌, ◌^◌, List, length, ◌++◌, Option, Some, None, Result}
use Rattle.std.specs.Prelude.{Ok, Err, IfSome}
use Rattle.ompt_events.specs.Traces.{TraceView}
use Rattle.lines.specs.declared.cause.ReadCause.{ReadCause}
use Rattle.lines.specs.declared.cause.ReadCause.TheVariants.{Device, Memory, TurnsSpent}
use Rattle.certificate.specs.declared.faults.ReadFault.{ReadFault}
use Rattle.certificate.specs.Limits.{newest_version}
use Rattle.lines.specs.Limits.{max_line}
use Rattle.certificate.specs.Counts.{TakesTurns, breaks_told}
use Rattle.certificate.specs.Formats.{said}
use Rattle.certificate.specs.Files.{IsFaultlessBefore, traces}
use Rattle.certificate.specs.Reading.{IsFromLine, IsLineReached, IsToldIn, IsToldRightly, IsReadAnswer}
use Rattle.certificate.specs.Reading.{IsBetween}

-- the bytes of a block that `read_on` takes
abbrev pub block_size : ℕ
block_size = 2 ^ 21

-- how many bytes wait at most: a block for each worker, and two lines that go on in the next blocks
abbrev pub room_of : ℕ → ℕ → ℕ
room_of workers block = workers * block + 2 * (max_line + 1)

-- the line of number n is being read: after the lines before it, at most this many bytes were given
pub record IsBeingReadIn (room n : ℕ) (bytes left : List ℕ) : Type 0 where
  pub waiting : List ℕ
  pub begins : IsFromLine n bytes (waiting ++ left)
  pub few : length waiting ≤ room

-- the line of number n is being read, where these bytes are left
abbrev pub IsLineBeingReadIn : ℕ → ℕ → List ℕ → Option (List ℕ) → Type 0
IsLineBeingReadIn room n bytes None = ⊥
IsLineBeingReadIn room n bytes (Some left) = IsBeingReadIn room n bytes left

-- ---- what is reported of a trace file

-- the same as `IsToldRightly`, but for the bytes in the buffers where memory ran out
abbrev pub IsToldInRoom : ℕ → ReadCause → ℕ → List ℕ → Option (List ℕ) → Type 0
IsToldInRoom room Memory n bytes left =
    IsLineBeingReadIn room n bytes left × IsFaultlessBefore newest_version n bytes
IsToldInRoom room cause n bytes left = IsToldRightly cause n bytes left

-- the answer is the trace that the bytes stand for, or a fault that is reported rightly
abbrev pub IsAnswerInRoom : ℕ → Result TraceView ReadFault → List ℕ → Option (List ℕ) → Type 0
IsAnswerInRoom room (Ok trace) bytes left = IsReadAnswer (Ok trace) bytes left
IsAnswerInRoom room (Err fault) bytes left = IsToldInRoom room fault.cause fault.line bytes left

-- the answer with this many workers and with blocks of this size, or of the size that `read_on` takes
abbrev pub IsAnswerInBlocks : ℕ → ℕ → Result TraceView ReadFault → List ℕ → Option (List ℕ) → Type 0
IsAnswerInBlocks workers block answer bytes left = IsAnswerInRoom (room_of workers block) answer bytes left

abbrev pub IsAnswerOn : ℕ → Result TraceView ReadFault → List ℕ → Option (List ℕ) → Type 0
IsAnswerOn workers answer bytes left = IsAnswerInBlocks workers block_size answer bytes left

-- ---- what the source did

-- what the source did is reported, unless a line that it gave before is faulty: then that fault is reported
abbrev pub IsToldAfter : Option ReadCause → Option ReadCause → Type 0
IsToldAfter met None = met ≡ None
IsToldAfter met (Some Device) = met ≡ Some Device
IsToldAfter met (Some TurnsSpent) = met ≡ Some TurnsSpent
IsToldAfter met (Some cause) = Unit {0}

-- what was met at a source by a reading that reported this: each answer `Again` is a turn, the one after the
-- last that a call has ends the reading, and so does the first answer `Broken`
pub record ReadsAhead (told : Option ReadCause) (turns turns' agains agains' breaks breaks' : ℕ) : Type 0
  where
    pub met : Option ReadCause
    pub taken : TakesTurns met turns turns' agains agains'
    pub broken : breaks' ≡ breaks_told met breaks
    pub told_after : IsToldAfter met told

-- ---- between two lines

-- the same as `IsToldIn` of a trace file, but for the bytes in the buffers where memory ran out
abbrev pub IsToldWithin : ℕ → ReadCause → ℕ → List ℕ → Option (List ℕ) → Type 0
IsToldWithin room Memory n bytes left =
    IsLineBeingReadIn room n bytes left × IsLineReached (traces newest_version) n bytes
IsToldWithin room cause n bytes left = IsToldIn (traces newest_version) cause n bytes left

-- what the lines before number n stand for is kept, and what they leave waits in these bytes and the source
abbrev pub IsBetweenLines : Option (List ℕ) → ℕ → TraceView → List ℕ → Option (List ℕ) → Type 0
IsBetweenLines known n kept waiting left = IsBetween (traces newest_version) known n kept waiting left

-- after lines were judged that waited: the next one is that of number n, or it has a fault
abbrev pub IsJudgedUpTo : Result (Unit {0}) ReadCause → Option (List ℕ) → ℕ → TraceView → List ℕ → ℕ
    → Option (List ℕ) → Type 0
IsJudgedUpTo (Ok _) known n kept waiting room left = IsBetweenLines known n kept waiting left
IsJudgedUpTo (Err cause) known n kept waiting room left =
    IfSome known (λ bytes. IsToldWithin room cause n bytes left)

-- one record is kept for each line before number n, but for the header
abbrev pub IsLineCounted : ℕ → TraceView → Type 0
IsLineCounted n kept = length kept.records ≡ n - 2

-- at the end of what is read: all lines are kept, or the line of number n has a fault
abbrev pub IsReadToEnd : Result (Unit {0}) ReadCause → Option (List ℕ) → ℕ → TraceView → ℕ → Option (List ℕ)
    → Type 0
IsReadToEnd (Ok _) known n kept room left =
    IfSome known (λ bytes. said (traces newest_version) bytes ≡ Ok kept)
IsReadToEnd (Err cause) known n kept room left = IfSome known (λ bytes. IsToldWithin room cause n bytes left)

-- a fault that the lines have which a source gave, or that memory ran out for them
abbrev pub IsLineFault : ReadCause → Type 0
IsLineFault Device = ⊥
IsLineFault TurnsSpent = ⊥
IsLineFault _ = Unit {0}
