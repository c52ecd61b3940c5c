-- What a recording makes of the script that it reads, and what it writes.
use Rattle.std.specs.Prelude.{◌≡◌, ℕ, List, take, Option, IfSome, Ok, ⊤}
use Rattle.std.specs.Io.KnownBytes.{Appends, Keeps}
use Rattle.ompt_events.specs.Traces.{TraceView}
use Rattle.certificate.specs.Formats.{said}
use Rattle.certificate.specs.Reading.{IsToldIn}
use Rattle.certificate.specs.ScriptFiles.{scripts}
use Rattle.certificate.specs.TraceTexts.{trace_text}
use Rattle.checker.specs.declared.verdict.CheckFault.TheVariants as check
use Rattle.callbacks.specs.declared.fault.CallFault.{CallFault}
use Rattle.scripts.specs.Scripts.{ScriptView}
use Rattle.scripts.specs.Runs.{IsRunOf, IsRunFault}
use Rattle.scripts.specs.declared.run_fault.RunFault.{RunFault}
use Rattle.scripts.specs.declared.run_fault.RunFault.TheVariants as run
use Rattle.taskaudit.specs.declared.work.AuditFault.{AuditFault}
use Rattle.taskaudit.specs.declared.work.AuditFault.TheVariants.{Read, Write, Check, Call, Upgrade}
use Rattle.taskaudit.specs.declared.work.AuditFault.TheVariants.{Undecided, Memory}

-- the bytes that were read, where they are known, are this script
abbrev pub ReadsAs : Option (List ℕ) → ScriptView → Type 0
ReadsAs bytes script = IfSome bytes (λ known. said scripts known ≡ Ok script)

-- the text of the trace of a run of the script was written, and nothing else: of version 2, or of version 3
-- for a script of version 2
pub record Records (bytes old new : Option (List ℕ)) : Type 0 where
  pub script : ScriptView
  pub trace : TraceView
  pub reads : ReadsAs bytes script
  pub run : IsRunOf script trace
  pub written : Appends old new (trace_text trace)

-- that text was written up to somewhere
pub record BreaksOffRecording (bytes old new : Option (List ℕ)) : Type 0 where
  pub script : ScriptView
  pub trace : TraceView
  pub reads : ReadsAs bytes script
  pub run : IsRunOf script trace
  pub count : ℕ
  pub written : Appends old new (take count (trace_text trace))

-- the bytes are a script, and the first of its steps, in the order of its lines, that a recorder refuses is
-- on this line, with this fault
pub record IsRefusedAt (bytes : Option (List ℕ)) (line : ℕ) (fault : CallFault) : Type 0 where
  pub script : ScriptView
  pub reads : ReadsAs bytes script
  pub first : IsRunFault script (run.Call line fault)

-- what a fault leaves: a prefix of that text where the sink failed, or memory ran out while it was written,
-- and else nothing. A recording checks, watches and upgrades no trace
abbrev pub LeavesRecording : Option (List ℕ) → Option (List ℕ) → Option (List ℕ) → AuditFault → Type 0
LeavesRecording bytes old new (Write f) = BreaksOffRecording bytes old new
LeavesRecording bytes old new (Call line f) = IsRefusedAt bytes line f × Keeps old new
LeavesRecording bytes old new (Check check.Thread) = Keeps old new
LeavesRecording bytes old new (Check f) = ⊥
LeavesRecording bytes old new (Upgrade line f) = ⊥
LeavesRecording bytes old new (Undecided line test) = ⊥
LeavesRecording bytes old new _ = Keeps old new

-- a fault of the input is the script's first one, or one of the source or of memory while the line was read;
-- left is what the source has left
abbrev pub IsScriptReadRightly : Option (List ℕ) → Option (List ℕ) → AuditFault → Type 0
IsScriptReadRightly bytes left (Read f) = IfSome bytes (λ known. IsToldIn scripts f.cause f.line known left)
IsScriptReadRightly bytes left _ = ⊤

-- the fault that tells why a run has no trace
abbrev pub fault_of_run : RunFault → AuditFault
fault_of_run run.Memory = Memory
fault_of_run run.Thread = Check check.Thread
fault_of_run (run.Call line f) = Call line f
