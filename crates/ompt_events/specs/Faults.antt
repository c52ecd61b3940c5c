-- What a call finds that looks for causes.
use Rattle.std.specs.Prelude.{ℕ, ⊤, List, Option, MatchOption}
use Rattle.ompt_events.specs.declared.records.Record.{Record}
use Rattle.ompt_events.specs.declared.cause.Cause.{Cause}
use Rattle.ompt_events.specs.declared.fault.Fault.{Fault}
use Rattle.ompt_events.specs.declared.fault.Fault.TheVariants.{Memory, Malformed}
use Rattle.ompt_events.specs.Causes.{IsFreeOf, IsFirstWith, IsMalformed, IsShownMalformed}

-- a search for the cause found its first record, or that no record has it
abbrev pub FindsFirst : List Record → Cause → Option ℕ → Type 0
FindsFirst rs cause found = MatchOption found (IsFreeOf rs cause) (IsFirstWith rs cause)

-- the records are malformed by one of these causes, the least that occurs, unless memory ran out
abbrev pub IsFault : List Record → List Cause → Fault → Type 0
IsFault rs sought Memory = ⊤
IsFault rs sought (Malformed i cause) = IsMalformed rs sought i cause

-- the trace shows one of these causes, the least that it shows, unless memory ran out
abbrev pub IsShownFault : List Record → List Cause → Fault → Type 0
IsShownFault rs sought Memory = ⊤
IsShownFault rs sought (Malformed i cause) = IsShownMalformed rs sought i cause
