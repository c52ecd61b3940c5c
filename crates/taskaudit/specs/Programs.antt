-- The program, from the words of its command line to its exit status.
use Rattle.std.specs.Prelude.{◌≡◌, ◌⊎◌, ℕ, Bool, true, false, List, Option, Some, None, Result, Ok, Err}
use Rattle.std.specs.Prelude.{IfOk, IfErr}
use Rattle.std.specs.Io.KnownBytes.{Keeps}
use Rattle.clap.specs.Words.{Text, fault_of, HasKind}
use Rattle.lines.specs.declared.cause.ReadCause.{ReadCause}
use Rattle.certificate.specs.Windows.{IsDeviceFault}
use Rattle.certificate.specs.declared.faults.WriteFault.TheVariants.{Device}
use Rattle.taskaudit.specs.declared.version.TheConstants.{VERSION_TEXT}
use Rattle.taskaudit.specs.declared.work.AuditFault.{AuditFault}
use Rattle.taskaudit.specs.declared.work.AuditFault.TheVariants as fault
use Rattle.taskaudit.specs.declared.work.Done.{Done}
use Rattle.taskaudit.specs.declared.work.Done.TheVariants.{Judged, Written}
use Rattle.taskaudit.specs.declared.work.Job.{Job}
use Rattle.taskaudit.specs.declared.work.Job.TheVariants.{Check, Order, Record, Upgrade, Watch}
use Rattle.taskaudit.specs.declared.work.Refusal.{Refusal}
use Rattle.taskaudit.specs.declared.work.Refusal.TheVariants.{NotText, Words, File, Audit}
use Rattle.taskaudit.specs.declared.work.FileFault.TheVariants.{Unopened, Compressed}
use Rattle.taskaudit.specs.declared.work.OpenFault.{OpenFault}
use Rattle.taskaudit.specs.declared.work.Packing.{Packing}
use Rattle.taskaudit.specs.declared.work.Printed.TheVariants as shown
use Rattle.taskaudit.specs.Audits.{Prints, Reports, Leaves, WritesRecords, shown_of}
use Rattle.taskaudit.specs.Commands.{command_line, AsksFor, AsksOf, by_no_word, by_dash, by_name}
use Rattle.taskaudit.specs.Packings.{IsPacked}
use Rattle.taskaudit.specs.Recordings.{Records, LeavesRecording}
use Rattle.taskaudit.specs.Reports.{fault_text_of}
use Rattle.taskaudit.specs.Statuses.{exit_status_of}
use Rattle.taskaudit.specs.Tellings.{Call, IsAwaited, IsTold, print, write}
use Rattle.taskaudit.specs.Upgradings.{Upgrades, LeavesUpgrade, version_to}
use Rattle.taskaudit.specs.Watchings.{Watches, LeavesWatch}

-- how a run ends by how its job does
abbrev pub ending_of : Result Done AuditFault → Result Done Refusal
ending_of (Ok done) = Ok done
ending_of (Err fault) = Err (Audit fault)

-- the job was done: a text that shows a verdict was written, or a trace was
abbrev pub Does : Job → Option (List ℕ) → Option (List ℕ) → Option (List ℕ) → Done → Type 0
Does (Check workers most) bytes old new (Judged outcome) =
    Reports (Prints (shown_of most)) bytes old new outcome
Does (Order false) bytes old new (Judged outcome) = Reports (Prints shown.Order) bytes old new outcome
Does (Order true) bytes old new (Judged outcome) = Reports WritesRecords bytes old new outcome
Does Record bytes old new Written = Records bytes old new
Does (Upgrade to) bytes old new Written = Upgrades (version_to to) bytes old new
Does Watch bytes old new (Judged outcome) = Watches bytes old new outcome
Does _ bytes old new _ = ⊥

-- what the fault leaves of the job. A check by workers has as many as the words say, 1 to 256, and its gate
-- is open: it has no other faults than a check on one thread
abbrev pub LeavesOfJob : Job → Option (List ℕ) → Option (List ℕ) → Option (List ℕ) → AuditFault → Type 0
LeavesOfJob (Check workers most) bytes old new fault = Leaves (Prints (shown_of most)) bytes old new fault
LeavesOfJob (Order false) bytes old new fault = Leaves (Prints shown.Order) bytes old new fault
LeavesOfJob (Order true) bytes old new fault = Leaves WritesRecords bytes old new fault
LeavesOfJob Record bytes old new fault = LeavesRecording bytes old new fault
LeavesOfJob (Upgrade to) bytes old new fault = LeavesUpgrade (version_to to) bytes old new fault
LeavesOfJob Watch bytes old new fault = LeavesWatch bytes old new fault

-- what the program has around it: the calls of the console, the files that were tried to open, the answers to
-- whether standard input is a terminal, and the bytes that a file has left where they are known
pub record World (F : Type 0) : Type 1 where
  pub made : Call → Type 0
  pub opens : Text → Result F OpenFault → Type 0
  pub sits : Bool → Type 0
  pub remaining : F → Option (List ℕ)

abbrev pub world_of : {F : Type 0} → (Call → Type 0) → (Text → Result F OpenFault → Type 0)
    → (Bool → Type 0) → (F → Option (List ℕ)) → World F
world_of made opens sits remaining =
    record { made = made; opens = opens; sits = sits; remaining = remaining }

-- the file of this name was opened, it is not compressed, and its bytes are these, where they are known
pub record IsOpened {F : Type 0} (opens : Text → Result F OpenFault → Type 0)
    (remaining : F → Option (List ℕ)) (name : Text) (bytes : Option (List ℕ)) : Type 0 where
  pub file : F
  pub opened : opens name (Ok file)
  pub unpacked : IsPacked (remaining file) None
  pub kept : Keeps (remaining file) bytes

-- the file of this name was opened, and failed before its first six bytes or its end were seen; so it is told
-- as a fault of line 1
pub record IsUnseen {F : Type 0} (opens : Text → Result F OpenFault → Type 0) (name : Text)
    (it : AuditFault) : Type 0 where
  pub file : F
  pub opened : opens name (Ok file)
  pub cause : ReadCause
  pub failed : IsDeviceFault cause
  pub told : it ≡ fault.Read (record { line = 1; cause = cause })

-- the file of this name was opened, and it is compressed so
pub record IsCompressed {F : Type 0} (opens : Text → Result F OpenFault → Type 0)
    (remaining : F → Option (List ℕ)) (name : Text) (packing : Packing) : Type 0 where
  pub file : F
  pub opened : opens name (Ok file)
  pub packed : IsPacked (remaining file) (Some packing)

-- why a job on the file of this name is refused: it is not opened, it is compressed, or it fails at its first
-- bytes, and then nothing is written; or the job has a fault
abbrev pub IsFileRefused : {F : Type 0} → (Text → Result F OpenFault → Type 0)
    → (F → Option (List ℕ)) → Job → Text → Option (List ℕ) → Option (List ℕ) → Refusal → Type 0
IsFileRefused opens remaining job name old new (File (Unopened told why)) =
    (told.now ≡ name) × opens name (Err why) × Keeps old new
IsFileRefused opens remaining job name old new (File (Compressed told packing asked)) =
    (told.now ≡ name) × (asked ≡ job) × IsCompressed opens remaining name packing × Keeps old new
IsFileRefused opens remaining job name old new (Audit fault) =
    (IsUnseen opens name fault × Keeps old new)
    ⊎ ((bytes : Option (List ℕ)) × IsOpened opens remaining name bytes × LeavesOfJob job bytes old new fault)
IsFileRefused opens remaining job name old new _ = ⊥

-- the job is done on standard input: by the word `-`; or where no word names a file, and then that is told to
-- whoever sits at a terminal
abbrev pub IsStandard : {F : Type 0} → World F → List Text → Job → Type 0
IsStandard world words job =
    AsksOf words by_dash ⊎ (AsksOf words by_no_word × IsAwaited world.made world.sits job)

-- the bytes that a job is done on: those of standard input, or of the file that the words name
abbrev pub IsInput : {F : Type 0} → World F → List Text → Job → Option (List ℕ) → Option (List ℕ)
    → Type 0
IsInput world words job input bytes =
    (IsStandard world words job × (bytes ≡ input))
    ⊎ ((name : Text) × AsksOf words (by_name name) × IsOpened world.opens world.remaining name bytes)

-- what the words ask for is done, on the bytes that they name
abbrev pub DoesAsked : {F : Type 0} → World F → List Text → Option (List ℕ) → Option (List ℕ)
    → Option (List ℕ) → Done → Type 0
DoesAsked world words input old new done =
    (job : Job) × AsksFor words job
    × ((bytes : Option (List ℕ)) × IsInput world words job input bytes × Does job bytes old new done)

-- a job on standard input has this fault
abbrev pub IsFaultOn : {F : Type 0} → World F → List Text → Job → Option (List ℕ) → Option (List ℕ)
    → Option (List ℕ) → Refusal → Type 0
IsFaultOn world words job input old new (Audit fault) =
    IsStandard world words job × LeavesOfJob job input old new fault
IsFaultOn world words job input old new _ = ⊥

-- a job on standard input has this fault, or one on the file that the words name is refused by it
abbrev pub IsRefusedJob : {F : Type 0} → World F → List Text → Job → Option (List ℕ)
    → Option (List ℕ) → Option (List ℕ) → Refusal → Type 0
IsRefusedJob world words job input old new refusal =
    ((name : Text) × AsksOf words (by_name name)
    × IsFileRefused world.opens world.remaining job name old new refusal)
    ⊎ IsFaultOn world words job input old new refusal

-- words are refused for what clap says of them, and nothing is written; a job, or the file that the words
-- name, only where the words ask for it, and it leaves what such a fault leaves of it
abbrev pub IsRefused : {F : Type 0} → World F → List Text → Option (List ℕ) → Option (List ℕ)
    → Option (List ℕ) → Refusal → Type 0
IsRefused world words input old new NotText = ⊥
IsRefused world words input old new (Words error) =
    HasKind (fault_of command_line words) error × Keeps old new
IsRefused world words input old new refusal =
    (job : Job) × AsksFor words job × IsRefusedJob world words job input old new refusal

-- what the words ask for is done, or why there are none is how it ends, and nothing is written
abbrev pub IsServed : {F : Type 0} → World F → Result (List Text) Refusal → Option (List ℕ)
    → Option (List ℕ) → Option (List ℕ) → Result Done Refusal → Type 0
IsServed world (Ok words) input old new ending =
    IfOk ending (DoesAsked world words input old new) × IfErr ending (IsRefused world words input old new)
IsServed world (Err refusal) input old new ending = (ending ≡ Err refusal) × Keeps old new

-- the exit status is that of the ending after it was told
abbrev pub Ends : (Call → Type 0) → Result Done Refusal → ℕ → Type 0
Ends made ending status =
    (told : Result Done Refusal) × IsTold made ending told × (status ≡ exit_status_of told)

-- a run on these words, or on why there are none, ends with this status
pub record Runs {F : Type 0} (world : World F) (words : Result (List Text) Refusal)
    (input old new : Option (List ℕ)) (status : ℕ)
    : Type 0 where
  pub ending : Result Done Refusal
  pub served : IsServed world words input old new ending
  pub ended : Ends world.made ending status

-- what a run does where the words ask for the version: its text is written, with status 0; or it is not,
-- which is told, with status 3; or memory ran out, which is told, with status 5
pub data ShowsVersion (made : Call → Type 0) : ℕ → Type 0 where
  version_written : made (write VERSION_TEXT.now true) → ShowsVersion made 0
  version_unwritten : made (write VERSION_TEXT.now false) → made (print (fault_text_of (fault.Write Device)))
      → ShowsVersion made 3
  no_memory : made (print (fault_text_of fault.Memory)) → ShowsVersion made 5
