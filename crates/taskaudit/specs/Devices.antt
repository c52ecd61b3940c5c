-- What an audit or a recording tells of the failures of its source and its sink.
use Rattle.std.specs.Prelude.{◌≡◌, ℕ, Option, Some, None, Result, Ok, Err}
use Rattle.lines.specs.declared.cause.ReadCause.{ReadCause}
use Rattle.certificate.specs.declared.faults.WriteFault.{WriteFault}
use Rattle.certificate.specs.Counts.{TakesTurns, TakesStalls, breaks_told, breaks_written}
use Rattle.certificate.specs.ReadingOn.{ReadsAhead}
use Rattle.taskaudit.specs.declared.work.AuditFault.{AuditFault}
use Rattle.taskaudit.specs.declared.work.AuditFault.TheVariants.{Read, Write}

-- what a device counts: its answers that ask for another turn, and its answers `Broken`
pub record Counters : Type 0 where
  pub turns : ℕ
  pub breaks : ℕ

-- how the reading ended: well, or with this cause
abbrev pub read_cause_of : {X : Type 0} → Result X AuditFault → Option ReadCause
read_cause_of (Err (Read f)) = Some f.cause
read_cause_of _ = None

-- how the writing ended, if there was any
abbrev pub written_of : {X : Type 0} → Result X AuditFault → Result (Unit {0}) WriteFault
written_of (Err (Write f)) = Err f
written_of _ = Ok tt

-- the sink's answers that ask for another turn, counted: with the 10,001st the writing ends, and where
-- nothing was written there was none
abbrev pub AsksForTurns : {X : Type 0} → Result X AuditFault → ℕ → ℕ → Type 0
AsksForTurns (Ok x) old new = (turns : ℕ) × TakesStalls (Ok tt) turns old new
AsksForTurns (Err (Write f)) old new = (turns : ℕ) × TakesStalls (Err f) turns old new
AsksForTurns (Err _) old new = new ≡ old

-- the devices are told of exactly where they fail, by what each counted before and after the call
pub record TellsDevices {X : Type 0} (result : Result X AuditFault) (source source' sink sink' : Counters)
    : Type 0 where
  -- the reading ends with `Device` exactly where the source breaks
  pub source_breaks : source'.breaks ≡ breaks_told (read_cause_of result) source.breaks
  -- and with `TurnsSpent` exactly where it asks for its 10,001st turn
  pub source_turns : (turns : ℕ) × TakesTurns (read_cause_of result) 0 turns source.turns source'.turns
  -- the writing ends with `Device` exactly where the sink breaks
  pub sink_breaks : sink'.breaks ≡ breaks_written (written_of result) sink.breaks
  -- and with `TurnsSpent` exactly where it asks for its 10,001st turn
  pub sink_turns : AsksForTurns result sink.turns sink'.turns

-- what an audit that reads ahead of the lines that it judges says about its devices
pub record TellsDevicesAhead {X : Type 0} (result : Result X AuditFault)
    (source source' sink sink' : Counters)
    : Type 0 where
  -- the reading ends where the source breaks or asks for its 10,001st turn, and tells it, except where a line
  -- that the source gave before has a fault: then it tells that one, and with an answer there was neither
  pub source_met : (turns : ℕ)
      × ReadsAhead (read_cause_of result) 0 turns source.turns source'.turns source.breaks source'.breaks
  -- the writing ends with `Device` exactly where the sink breaks
  pub sink_breaks : sink'.breaks ≡ breaks_written (written_of result) sink.breaks
  -- and with `TurnsSpent` exactly where it asks for its 10,001st turn
  pub sink_turns : AsksForTurns result sink.turns sink'.turns
