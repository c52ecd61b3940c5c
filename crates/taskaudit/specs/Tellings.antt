-- What becomes of an ending when it is told why there is no verdict or no trace.
use Rattle.std.specs.Prelude.{◌≡◌, ◌≢◌, ℕ, Bool, true, false, List, Result, Ok, Err, codes}
use Rattle.clap.specs.Words.{kind_of}
use Rattle.clap.specs.declared.error.Error.{Error}
use Rattle.clap.specs.declared.error.kind.ErrorKind.TheVariants.{DisplayVersion, OutOfMemory}
use Rattle.certificate.specs.declared.faults.WriteFault.TheVariants.{Device}
use Rattle.taskaudit.specs.declared.work.AuditFault.{AuditFault}
use Rattle.taskaudit.specs.declared.work.AuditFault.TheVariants.{Memory, Write}
use Rattle.taskaudit.specs.declared.work.Done.{Done}
use Rattle.taskaudit.specs.declared.work.Refusal.{Refusal}
use Rattle.taskaudit.specs.declared.work.Refusal.TheVariants.{NotText, Words, File, Audit}
use Rattle.taskaudit.specs.declared.work.FileFault.{FileFault}
use Rattle.taskaudit.specs.declared.work.Job.{Job}
use Rattle.taskaudit.specs.declared.work.Job.TheVariants.{Check, Order, Record, Upgrade, Watch}
use Rattle.taskaudit.specs.declared.version.TheConstants.{VERSION_TEXT}
use Rattle.taskaudit.specs.FileFaults.{file_fault_text_of}
use Rattle.taskaudit.specs.Reports.{fault_text_of}
use Rattle.taskaudit.specs.Statuses.{usage_status_of}

-- a call of the console, with its answer
pub data Call : Type 0 where
  -- for the text of the fault: whether there is memory for it
  text_of : AuditFault → Bool → Call
  -- for the text of why a file is not read: whether there is memory for it
  text_of_file : FileFault → Bool → Call
  -- to show what clap says of the words: whether it is written
  show : Error → Bool → Call
  -- to write these bytes on standard output: whether they are written
  write : List ℕ → Bool → Call
  -- to print these bytes on standard error
  print : List ℕ → Call

-- a fault stays what it is exactly where there is memory for its text, and else becomes `Memory`; the text of
-- what it is then is printed
pub data IsToldFault (made : Call → Type 0) : AuditFault → AuditFault → Type 0 where
  with_text : {fault : AuditFault} → made (text_of fault true) → made (print (fault_text_of fault))
      → IsToldFault made fault fault
  without_text : {fault : AuditFault} → made (text_of fault false) → made (print (fault_text_of Memory))
      → IsToldFault made fault Memory

-- what is shown of refused words, and whether it is written: the text of the version where it is asked for,
-- and else what clap says of the words
pub data IsShown (made : Call → Type 0) : Error → Bool → Type 0 where
  version : {error : Error} {written : Bool} → kind_of error ≡ DisplayVersion
      → made (write VERSION_TEXT.now written) → IsShown made error written
  said : {error : Error} {written : Bool} → kind_of error ≢ DisplayVersion → made (show error written)
      → IsShown made error written

-- refused words stay what they are, but help or a version that is not written is a fault of writing, and
-- where clap ran out of memory that is told
pub data IsToldWords (made : Call → Type 0) : Error → Refusal → Type 0 where
  shown : {error : Error} → kind_of error ≢ OutOfMemory → IsShown made error true
      → IsToldWords made error (Words error)
  wrong : {error : Error} → kind_of error ≢ OutOfMemory → usage_status_of (kind_of error) ≢ 0
      → IsShown made error false → IsToldWords made error (Words error)
  unwritten : {error : Error} {fault : AuditFault} → usage_status_of (kind_of error) ≡ 0
      → IsShown made error false → IsToldFault made (Write Device) fault
      → IsToldWords made error (Audit fault)
  out_of_memory : {error : Error} {fault : AuditFault} → kind_of error ≡ OutOfMemory
      → IsToldFault made Memory fault → IsToldWords made error (Audit fault)

-- why a file is not read stays what it is exactly where there is memory for its text, which is then printed;
-- else the lack of memory is told
pub data IsToldFile (made : Call → Type 0) : FileFault → Refusal → Type 0 where
  with_file_text : {fault : FileFault} → made (text_of_file fault true)
      → made (print (file_fault_text_of fault)) → IsToldFile made fault (File fault)
  without_file_text : {fault : FileFault} {after : AuditFault} → made (text_of_file fault false)
      → IsToldFault made Memory after → IsToldFile made fault (Audit after)

-- what is told at a terminal of a job that reads from there
abbrev pub reading_text_of : Job → List ℕ
reading_text_of (Check workers most) =
    codes "taskaudit: reading a trace from this terminal (Ctrl-D ends it); see taskaudit check --help\n"
reading_text_of (Order records) =
    codes "taskaudit: reading a trace from this terminal (Ctrl-D ends it); see taskaudit order --help\n"
reading_text_of Record =
    codes "taskaudit: reading a script from this terminal (Ctrl-D ends it); see taskaudit record --help\n"
reading_text_of (Upgrade to) =
    codes "taskaudit: reading a trace from this terminal (Ctrl-D ends it); see taskaudit upgrade --help\n"
reading_text_of Watch =
    codes "taskaudit: reading a trace from this terminal (Ctrl-D ends it); see taskaudit watch --help\n"

-- it was asked whether somebody sits at a terminal, and if so, that was told
pub record IsAwaited (made : Call → Type 0) (sits : Bool → Type 0) (job : Job) : Type 0 where
  pub is_terminal : Bool
  pub asked : sits is_terminal
  pub told : is_terminal ≡ true → made (print (reading_text_of job))

-- an ending, and what it is after it was told; made are the calls of the console
abbrev pub IsTold : (Call → Type 0) → Result Done Refusal → Result Done Refusal → Type 0
IsTold made (Ok done) told = told ≡ Ok done
IsTold made (Err NotText) told =
    (told ≡ Err NotText) × made (print (codes "error: a command-line argument is not UTF-8\n"))
IsTold made (Err (Words error)) told =
    (refusal : Refusal) × (told ≡ Err refusal) × IsToldWords made error refusal
IsTold made (Err (File fault)) told =
    (refusal : Refusal) × (told ≡ Err refusal) × IsToldFile made fault refusal
IsTold made (Err (Audit fault)) told =
    (after : AuditFault) × (told ≡ Err (Audit after)) × IsToldFault made fault after
