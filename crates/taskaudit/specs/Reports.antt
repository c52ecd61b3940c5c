-- What is printed, to the byte. Each text is one line.
use Rattle.std.specs.Prelude.{◌≡◌, ℕ, ◌+◌, ◌++◌, List, length, count_by, is_some, codes, decimal, slice_get}
use Rattle.std.specs.Option.{option_map_or, option_or, unwrap_or}
use Rattle.ompt_events.specs.declared.records.Record.{Record}
use Rattle.ompt_events.specs.Regions.{ends_wait}
use Rattle.ompt_events.specs.declared.cause.Cause.{Cause}
use Rattle.ompt_events.specs.CauseNames.{cause_number, cause_name}
use Rattle.ompt_events.specs.Records.{creation, started, wait_completed}
use Rattle.ompt_events.specs.Places.{at}
use Rattle.ompt_events.specs.Causes.{entries_in}
use Rattle.checker.specs.declared.verdict.Verdict.{Verdict}
use Rattle.checker.specs.declared.verdict.Verdict.TheVariants.{Yes, No, Malformed}
use Rattle.checker.specs.declared.verdict.Why.TheVariants.{Unfinished, Predecessor}
use Rattle.lines.specs.declared.cause.ReadCause.{ReadCause}
use Rattle.lines.specs.declared.cause.ReadCause.TheVariants as read
use Rattle.certificate.specs.declared.faults.WriteFault.{WriteFault}
use Rattle.certificate.specs.declared.faults.WriteFault.TheVariants as write
use Rattle.certificate.specs.declared.faults.UpgradeFault.{UpgradeFault}
use Rattle.certificate.specs.declared.faults.UpgradeFault.TheVariants as upgrade
use Rattle.certificate.specs.FaultNames.{write_fault_number}
use Rattle.lines.specs.CauseNames.{read_cause_number, read_cause_name}
use Rattle.certificate.specs.FaultNames.{write_fault_name, upgrade_fault_number, upgrade_fault_name}
use Rattle.checker.specs.declared.verdict.CheckFault.TheVariants as check
use Rattle.callbacks.specs.declared.fault.CallFault.{CallFault}
use Rattle.callbacks.specs.declared.fault.CallFault.TheVariants as call
use Rattle.online.specs.declared.watch.Test.{Test}
use Rattle.online.specs.declared.watch.Test.TheVariants as test
use Rattle.taskaudit.specs.declared.work.Outcome.{Outcome}
use Rattle.taskaudit.specs.declared.work.Outcome.TheVariants as outcome
use Rattle.taskaudit.specs.declared.work.AuditFault.{AuditFault}
use Rattle.taskaudit.specs.declared.work.AuditFault.TheVariants as fault
use Rattle.taskaudit.specs.declared.report.Counts.{Counts}

-- how many explicit tasks the records create
abbrev pub creates_in : List Record → ℕ
creates_in rs = count_by (λ r. is_some (creation r.body)) rs

-- how many regions end that wait for tasks
abbrev pub waits_in : List Record → ℕ
waits_in rs = count_by (λ r. ends_wait r.body) rs

-- what the report of a yes counts
pub record AreCounts (rs : List Record) (counts : Counts) : Type 0 where
  pub entries : counts.entries ≡ entries_in rs
  pub tasks : counts.tasks ≡ creates_in rs
  pub waits : counts.waits ≡ waits_in rs

-- where a record stands, in words
abbrev pub place_text : ℕ → ℕ → ℕ → List ℕ
place_text line thread seq =
    codes "line " ++ (decimal line
    ++ (codes ", thread " ++ (decimal thread
    ++ (codes ", seq " ++ decimal seq))))

-- where the record at the place i is: line 1 of the file is the header
abbrev pub record_place : List Record → ℕ → List ℕ
record_place rs i =
    place_text (i + 2) (option_map_or (λ r. r.thread) (slice_get rs i) 0)
    (option_map_or (λ r. r.seq) (slice_get rs i) 0)

abbrev pub yes_text : List Record → List ℕ
yes_text rs =
    codes "yes: " ++ (decimal (length rs)
    ++ (codes " records, " ++ (decimal (entries_in rs)
    ++ (codes " entries, " ++ (decimal (creates_in rs)
    ++ (codes " tasks, " ++ (decimal (waits_in rs)
    ++ codes " waits\n")))))))

-- the task is unfinished at the place i
abbrev pub no_text : List Record → ℕ → ℕ → List ℕ
no_text rs i task =
    codes "no: " ++ (record_place rs i ++ (codes ": task " ++ (decimal task ++ codes " unfinished\n")))

-- the task that starts at the place i, or the taskwait that is complete there; 0 where there is none
abbrev pub dependent_at : List Record → ℕ → ℕ
dependent_at rs i = unwrap_or (option_or (at started rs i) (at wait_completed rs i)) 0

-- the predecessor is unfinished there, which the dependent task must wait for
abbrev pub precedes_text : List Record → ℕ → ℕ → ℕ → List ℕ
precedes_text rs i predecessor dependent =
    codes "no: " ++ (record_place rs i
    ++ (codes ": task " ++ (decimal predecessor
    ++ (codes " must precede task " ++ (decimal dependent ++ codes "\n")))))

abbrev pub late_text : List Record → ℕ → ℕ → List ℕ
late_text rs i predecessor = precedes_text rs i predecessor (dependent_at rs i)

-- the record at the place i has the cause
abbrev pub malformed_text : List Record → ℕ → Cause → List ℕ
malformed_text rs i cause =
    codes "malformed: " ++ (record_place rs i
    ++ (codes ": cause " ++ (decimal (cause_number cause)
    ++ (codes " " ++ (cause_name cause ++ codes "\n")))))

-- the report of a verdict
abbrev pub report_of : List Record → Verdict → List ℕ
report_of rs (Yes order) = yes_text rs
report_of rs (No i (Unfinished task)) = no_text rs i task
report_of rs (No i (Predecessor task)) = late_text rs i task
report_of rs (Malformed i cause) = malformed_text rs i cause

-- the text of a fault, one line: any lack of memory has the same
abbrev pub no_memory_line : List ℕ
no_memory_line = codes "out of memory"

-- the input could not be read
abbrev pub unreadable_line : ℕ → ReadCause → List ℕ
unreadable_line line read.Memory = no_memory_line
unreadable_line line cause =
    codes "unreadable: line " ++ (decimal line
    ++ (codes ": " ++ (decimal (read_cause_number cause) ++ (codes " " ++ read_cause_name cause))))

-- the report or the trace could not be written
abbrev pub unwritten_line : WriteFault → List ℕ
unwritten_line write.Memory = no_memory_line
unwritten_line cause =
    codes "unwritten: " ++ (decimal (write_fault_number cause) ++ (codes " " ++ write_fault_name cause))

-- what the fault of a refused call is called in a report
abbrev pub call_fault_number : CallFault → ℕ
call_fault_number call.Memory = 1
call_fault_number call.Full = 2
call_fault_number call.WrongState = 3
call_fault_number call.TooDeep = 4
call_fault_number call.Overlap = 5

abbrev pub call_fault_name : CallFault → List ℕ
call_fault_name call.Memory = codes "Memory"
call_fault_name call.Full = codes "Full"
call_fault_name call.WrongState = codes "WrongState"
call_fault_name call.TooDeep = codes "TooDeep"
call_fault_name call.Overlap = codes "Overlap"

-- the call on this line of the script is refused
abbrev pub refused_line : ℕ → CallFault → List ℕ
refused_line line call.Memory = no_memory_line
refused_line line f =
    codes "refused: line " ++ (decimal line
    ++ (codes ": " ++ (decimal (call_fault_number f) ++ (codes " " ++ call_fault_name f))))

-- the trace has no version 2, by the record on this line
abbrev pub not_upgraded_line : ℕ → UpgradeFault → List ℕ
not_upgraded_line line upgrade.Memory = no_memory_line
not_upgraded_line line f =
    codes "not upgraded: line " ++ (decimal line
    ++ (codes ": " ++ (decimal (upgrade_fault_number f) ++ (codes " " ++ upgrade_fault_name f))))

-- what the test of a watch is called in a report
abbrev pub test_number : Test → ℕ
test_number test.Calls = 1
test_number test.Regions = 2
test_number test.Teams = 3
test_number test.Lengths = 4
test_number test.Waits = 5
test_number test.Predecessors = 6
test_number test.End = 7

abbrev pub test_name : Test → List ℕ
test_name test.Calls = codes "Calls"
test_name test.Regions = codes "Regions"
test_name test.Teams = codes "Teams"
test_name test.Lengths = codes "Lengths"
test_name test.Waits = codes "Waits"
test_name test.Predecessors = codes "Predecessors"
test_name test.End = codes "End"

-- a watch has no verdict: the record on this line, or the end of the file there, fails the test
abbrev pub undecided_line : ℕ → Test → List ℕ
undecided_line line test =
    codes "undecided: line " ++ (decimal line
    ++ (codes ": " ++ (decimal (test_number test) ++ (codes " " ++ test_name test))))

abbrev pub fault_line : AuditFault → List ℕ
fault_line (fault.Read f) = unreadable_line f.line f.cause
fault_line (fault.Write f) = unwritten_line f
fault_line (fault.Check check.Memory) = no_memory_line
fault_line (fault.Check f) = codes "no thread"
fault_line (fault.Call line f) = refused_line line f
fault_line (fault.Upgrade line f) = not_upgraded_line line f
fault_line (fault.Undecided line test) = undecided_line line test
fault_line fault.Memory = no_memory_line

-- what is printed of a fault
abbrev pub fault_text_of : AuditFault → List ℕ
fault_text_of fault = fault_line fault ++ codes "\n"

-- the kind of a verdict
abbrev pub outcome_of : Verdict → Outcome
outcome_of (Yes order) = outcome.Yes
outcome_of (No i why) = outcome.No
outcome_of (Malformed i cause) = outcome.Malformed
