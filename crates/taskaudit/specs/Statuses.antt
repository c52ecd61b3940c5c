-- The exit statuses of the program.
use Rattle.std.specs.Prelude.{ℕ, Result, Ok, Err}
use Rattle.lines.specs.declared.cause.ReadCause.{ReadCause}
use Rattle.lines.specs.declared.cause.ReadCause.TheVariants as read
use Rattle.certificate.specs.declared.faults.WriteFault.{WriteFault}
use Rattle.certificate.specs.declared.faults.WriteFault.TheVariants as write
use Rattle.certificate.specs.declared.faults.UpgradeFault.{UpgradeFault}
use Rattle.certificate.specs.declared.faults.UpgradeFault.TheVariants as upgrade
use Rattle.clap.specs.declared.error.kind.ErrorKind.{ErrorKind}
use Rattle.clap.specs.declared.error.kind.ErrorKind.TheVariants.{DisplayHelp, DisplayVersion, OutOfMemory}
use Rattle.callbacks.specs.declared.fault.CallFault.{CallFault}
use Rattle.callbacks.specs.declared.fault.CallFault.TheVariants as call
use Rattle.taskaudit.specs.declared.work.Done.{Done}
use Rattle.taskaudit.specs.declared.work.Done.TheVariants.{Judged, Written}
use Rattle.taskaudit.specs.declared.work.Outcome.{Outcome}
use Rattle.taskaudit.specs.declared.work.Outcome.TheVariants as outcome
use Rattle.taskaudit.specs.declared.work.AuditFault.{AuditFault}
use Rattle.taskaudit.specs.declared.work.AuditFault.TheVariants as fault
use Rattle.taskaudit.specs.declared.work.Refusal.{Refusal}
use Rattle.taskaudit.specs.declared.work.Refusal.TheVariants.{NotText, Words, File, Audit}
use Rattle.clap.specs.Words.{kind_of}

-- a verdict was given
abbrev pub outcome_status : Outcome → ℕ
outcome_status outcome.Yes = 0
outcome_status outcome.No = 1
outcome_status outcome.Malformed = 2

-- a verdict was given, or a trace was written
abbrev pub done_status : Done → ℕ
done_status (Judged outcome) = outcome_status outcome
done_status Written = 0

-- the input could not be read: memory ran out, or another cause
abbrev pub read_status : ReadCause → ℕ
read_status read.Memory = 5
read_status _ = 3

-- the report or the trace could not be written
abbrev pub write_status : WriteFault → ℕ
write_status write.Memory = 5
write_status _ = 3

-- a call of the script was refused
abbrev pub refused_status : CallFault → ℕ
refused_status call.Memory = 5
refused_status _ = 2

-- the trace was not upgraded
abbrev pub upgrade_status : UpgradeFault → ℕ
upgrade_status upgrade.Memory = 5
upgrade_status _ = 2

-- no verdict was given, or no trace, or it could not be written
abbrev pub fault_status_of : AuditFault → ℕ
fault_status_of (fault.Read f) = read_status f.cause
fault_status_of (fault.Write f) = write_status f
fault_status_of (fault.Check f) = 5
fault_status_of (fault.Call line f) = refused_status f
fault_status_of (fault.Upgrade line f) = upgrade_status f
fault_status_of (fault.Undecided line test) = 6
fault_status_of fault.Memory = 5

-- the command line names nothing to do: help or the version was asked for, memory ran out, or it is wrong
abbrev pub usage_status_of : ErrorKind → ℕ
usage_status_of DisplayHelp = 0
usage_status_of DisplayVersion = 0
usage_status_of OutOfMemory = 5
usage_status_of _ = 4

-- how the program ends
abbrev pub exit_status_of : Result Done Refusal → ℕ
exit_status_of (Ok done) = done_status done
exit_status_of (Err NotText) = 4
exit_status_of (Err (Words error)) = usage_status_of (kind_of error)
exit_status_of (Err (File fault)) = 3
exit_status_of (Err (Audit fault)) = fault_status_of fault
