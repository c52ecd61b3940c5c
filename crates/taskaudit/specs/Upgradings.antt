-- What an upgrade makes of the trace file that it reads, and what it writes.
use Rattle.std.specs.Prelude.{◌≡◌, ◌+◌, ℕ, List, take, Option, IfSome, Ok}
use Rattle.std.specs.Option.{unwrap_or}
use Rattle.std.specs.Io.KnownBytes.{Appends, Keeps}
use Rattle.ompt_events.specs.Traces.{TraceView}
use Rattle.ompt_events.specs.Upgrades.{MovesFirst}
use Rattle.certificate.specs.Files.{file_says}
use Rattle.certificate.specs.TraceTexts.{trace_text}
use Rattle.certificate.specs.Upgrading.{IsUpgradedTo}
use Rattle.certificate.specs.declared.faults.UpgradeFault.{UpgradeFault}
use Rattle.certificate.specs.declared.faults.UpgradeFault.TheVariants as upgrade
use Rattle.taskaudit.specs.declared.work.AuditFault.{AuditFault}
use Rattle.taskaudit.specs.declared.work.AuditFault.TheVariants.{Read, Write, Check, Call, Upgrade}
use Rattle.taskaudit.specs.declared.work.AuditFault.TheVariants.{Undecided, Memory}

-- the bytes that were read, where they are known, are a file for the trace
abbrev pub AreFile : Option (List ℕ) → TraceView → Type 0
AreFile bytes trace = IfSome bytes (λ known. file_says known ≡ Ok trace)

-- the version that is written at least: 2 where none is given
abbrev pub version_to : Option ℕ → ℕ
version_to given = unwrap_or given 2

-- the text of what the trace of the file is in this version was written, and nothing else
pub record Upgrades (version : ℕ) (bytes old new : Option (List ℕ)) : Type 0 where
  pub trace : TraceView
  pub upgraded : TraceView
  pub file : AreFile bytes trace
  pub is_upgraded : IsUpgradedTo version trace upgraded
  pub written : Appends old new (trace_text upgraded)

-- that text was written up to somewhere
pub record BreaksOffUpgrade (version : ℕ) (bytes old new : Option (List ℕ)) : Type 0 where
  pub trace : TraceView
  pub upgraded : TraceView
  pub file : AreFile bytes trace
  pub is_upgraded : IsUpgradedTo version trace upgraded
  pub count : ℕ
  pub written : Appends old new (take count (trace_text upgraded))

-- the bytes are a file of version 1, and the record on this line is the first at which a task has moved; line
-- 1 is the header
pub record IsMovedAt (bytes : Option (List ℕ)) (line : ℕ) (fault : UpgradeFault) : Type 0 where
  pub trace : TraceView
  pub file : AreFile bytes trace
  pub version : trace.version ≡ 1
  pub at : ℕ
  pub moves : MovesFirst trace.records at
  pub told : fault ≡ upgrade.Moved at
  pub place : line ≡ at + 2

-- what a fault leaves: a prefix of that text where the sink failed, or memory ran out while it was written,
-- and else nothing. An upgrade checks and watches no trace and makes no call of a script
abbrev pub LeavesUpgrade : ℕ → Option (List ℕ) → Option (List ℕ) → Option (List ℕ) → AuditFault → Type 0
LeavesUpgrade version bytes old new (Read f) = Keeps old new
LeavesUpgrade version bytes old new (Write f) = BreaksOffUpgrade version bytes old new
LeavesUpgrade version bytes old new (Check f) = ⊥
LeavesUpgrade version bytes old new (Call line f) = ⊥
LeavesUpgrade version bytes old new (Upgrade line f) = IsMovedAt bytes line f × Keeps old new
LeavesUpgrade version bytes old new (Undecided line test) = ⊥
LeavesUpgrade version bytes old new Memory = Keeps old new

-- the fault that tells why a trace is not upgraded
abbrev pub fault_of_upgrade : UpgradeFault → AuditFault
fault_of_upgrade upgrade.Memory = Memory
fault_of_upgrade (upgrade.Moved at) = Upgrade (at + 2) (upgrade.Moved at)
