-- What an audit makes of the bytes that it reads, and what it writes.
use Rattle.std.specs.Prelude.{◌≡◌, ◌<◌, ◌≤◌, ℕ, ◌++◌, List, take, Option, Some, None, IfSome, Ok, ⊤}
use Rattle.std.specs.Io.KnownBytes.{Appends, Keeps}
use Rattle.ompt_events.specs.Traces.{TraceView}
use Rattle.certificate.specs.Files.{file_says}
use Rattle.certificate.specs.Reading.{IsToldRightly}
use Rattle.certificate.specs.ReadingOn.{IsToldInRoom, block_size, room_of}
use Rattle.certificate.specs.TraceTexts.{trace_text}
use Rattle.certificate.specs.declared.faults.WriteFault.TheVariants as write
use Rattle.checker.specs.declared.verdict.CheckFault.TheVariants as check
use Rattle.checker.specs.declared.verdict.Verdict.{Verdict}
use Rattle.checker.specs.declared.verdict.Verdict.TheVariants as verdict
use Rattle.checker.specs.Gate.{HaveAllPassed, HavePassedFor}
use Rattle.checker.specs.Verdicts.{IsVerdict, task_of}
use Rattle.checker.specs.Counter.{IsCounterOrder}
use Rattle.checker.specs.Findings.{IsFoundOf}
use Rattle.checker.specs.declared.findings.Findings as checker
use Rattle.taskaudit.specs.declared.work.Printed.{Printed}
use Rattle.taskaudit.specs.declared.work.Printed.TheVariants.{Report, Findings, Order}
use Rattle.taskaudit.specs.declared.work.Outcome.{Outcome}
use Rattle.taskaudit.specs.declared.work.Outcome.TheVariants.{Yes}
use Rattle.taskaudit.specs.declared.work.AuditFault.{AuditFault}
use Rattle.taskaudit.specs.declared.work.AuditFault.TheVariants.{Read, Write, Check, Call, Upgrade}
use Rattle.taskaudit.specs.declared.work.AuditFault.TheVariants.{Undecided, Memory}
use Rattle.taskaudit.specs.Headline.{IsSynchronised}
use Rattle.taskaudit.specs.FindingTexts.{findings_text}
use Rattle.taskaudit.specs.Orders.{in_order, order_lines}
use Rattle.taskaudit.specs.Reports.{report_of, outcome_of}

-- the bytes that were read, where they are known, are a file for the trace, and this is the records' verdict
pub record IsJudged (bytes : Option (List ℕ)) (trace : TraceView) (verdict : Verdict) : Type 0 where
  pub file : IfSome bytes (λ known. file_says known ≡ Ok trace)
  pub right : IsVerdict trace.records verdict

-- what a check shows that prints so many findings at most, or none
abbrev pub shown_of : Option ℕ → Printed
shown_of None = Report
shown_of (Some most) = Findings most

-- what is printed of a verdict: its report; or behind it too the records at which it shows; or of a yes its
-- order, and of a no an order that leaves the named task incomplete at the named record
abbrev pub Prints : Printed → TraceView → Verdict → List ℕ → Type 0
Prints Report trace found text = text ≡ report_of trace.records found
Prints (Findings most) trace found text =
    (all : checker.Findings) × IsFoundOf trace.records most found all
    × (text ≡ report_of trace.records found ++ findings_text trace.records most all)
Prints Order trace (verdict.Yes order) text =
    text ≡ report_of trace.records (verdict.Yes order) ++ order_lines trace.records order
Prints Order trace (verdict.No i why) text =
    (order : List ℕ) × IsCounterOrder trace.records i (task_of why) order
    × (text ≡ report_of trace.records (verdict.No i why) ++ order_lines trace.records order)
Prints Order trace (verdict.Malformed i cause) text =
    text ≡ report_of trace.records (verdict.Malformed i cause)

-- what `order --records` writes: of a yes the file with its records in the order of the yes, and of any other
-- verdict what `order` prints
abbrev pub WritesRecords : TraceView → Verdict → List ℕ → Type 0
WritesRecords trace (verdict.Yes order) text = text ≡ trace_text (in_order trace order)
WritesRecords trace found text = Prints Order trace found text

-- which texts show a verdict
abbrev pub Shown : Type 1
Shown = TraceView → Verdict → List ℕ → Type 0

-- a text that shows the verdict was written, and nothing else, and the outcome is the verdict's kind
pub record Reports (shown : Shown) (bytes old new : Option (List ℕ)) (outcome : Outcome) : Type 0 where
  pub trace : TraceView
  pub verdict : Verdict
  pub judged : IsJudged bytes trace verdict
  pub text : List ℕ
  pub printed : shown trace verdict text
  pub written : Appends old new text
  pub kind : outcome ≡ outcome_of verdict
  pub kept : outcome ≡ Yes → IsSynchronised trace.records

-- such a text was written up to somewhere
pub record BreaksOff (shown : Shown) (bytes old new : Option (List ℕ)) : Type 0 where
  pub trace : TraceView
  pub verdict : Verdict
  pub judged : IsJudged bytes trace verdict
  pub text : List ℕ
  pub printed : shown trace verdict text
  pub count : ℕ
  pub written : Appends old new (take count text)

-- memory ran out for the check or for the report
abbrev pub IsOutOfMemory : AuditFault → Type 0
IsOutOfMemory (Check check.Memory) = ⊤
IsOutOfMemory Memory = ⊤
IsOutOfMemory _ = ⊥

-- the text was written up to somewhere; memory is never the cause
abbrev pub IsWriteFault : (ℕ → Type 0) → AuditFault → Type 0
IsWriteFault part (Write write.Memory) = ⊥
IsWriteFault part (Write f) = (count : ℕ) × part count
IsWriteFault part _ = ⊥

-- what a fault leaves: a prefix of such a text where the sink failed, or memory ran out while it was written,
-- and else nothing. An audit on one thread starts no thread, makes no call of a script and upgrades nothing,
-- and it decides each file
abbrev pub Leaves : Shown → Option (List ℕ) → Option (List ℕ) → Option (List ℕ) → AuditFault → Type 0
Leaves shown bytes old new (Write f) = BreaksOff shown bytes old new
Leaves shown bytes old new (Check check.Memory) = Keeps old new
Leaves shown bytes old new (Check f) = ⊥
Leaves shown bytes old new (Call line f) = ⊥
Leaves shown bytes old new (Upgrade line f) = ⊥
Leaves shown bytes old new (Undecided line test) = ⊥
Leaves shown bytes old new _ = Keeps old new

-- no workers, or more than 256
abbrev pub IsNoCrew : ℕ → Type 0
IsNoCrew workers = 1 ≤ workers → 256 < workers

-- memory ran out, or the gate refused a worker that there is and that it may refuse, and has let those
-- before it pass
abbrev pub IsOfCrew : ℕ → (ℕ → Type 0) → (ℕ → Type 0) → AuditFault → Type 0
IsOfCrew workers may_refuse passed (Check (check.Gate worker)) =
    (worker < workers) × may_refuse worker × HaveAllPassed passed worker
IsOfCrew workers may_refuse passed fault = IsOutOfMemory fault

-- the same of an audit by so many workers. Only here it may be no crew, or the gate may refuse a worker that
-- it has, one of those that the gate may refuse, after those before it have passed; where no thread can be
-- started the work is done all the same. A text that broke off is of a verdict for which the workers have
-- passed
abbrev pub LeavesOn : Shown → ℕ → (ℕ → Type 0) → (ℕ → Type 0) → Option (List ℕ) → Option (List ℕ)
    → Option (List ℕ) → AuditFault → Type 0
LeavesOn shown workers may_refuse passed bytes old new (Check check.Workers) =
    IsNoCrew workers × Keeps old new
LeavesOn shown workers may_refuse passed bytes old new (Check (check.Gate worker)) =
    (worker < workers) × may_refuse worker × HaveAllPassed passed worker × Keeps old new
LeavesOn shown workers may_refuse passed bytes old new (Write f) =
    (off : BreaksOff shown bytes old new) × HavePassedFor passed workers off.verdict
LeavesOn shown workers may_refuse passed bytes old new fault = Leaves shown bytes old new fault

-- a fault of the input is the file's first one, or one of the source or of memory while the line was read;
-- left is what the source has left
abbrev pub IsReadRightly : Option (List ℕ) → Option (List ℕ) → AuditFault → Type 0
IsReadRightly bytes left (Read f) = IfSome bytes (λ known. IsToldRightly f.cause f.line known left)
IsReadRightly bytes left _ = ⊤

-- the same of so many workers: only where no memory was found for a line, more bytes behind the lines before
-- it may have been taken, a block for each worker and one longest line
abbrev pub IsReadRightlyOn : ℕ → Option (List ℕ) → Option (List ℕ) → AuditFault → Type 0
IsReadRightlyOn workers bytes left (Read f) =
    IfSome bytes (λ known. IsToldInRoom (room_of workers block_size) f.cause f.line known left)
IsReadRightlyOn workers bytes left _ = ⊤
