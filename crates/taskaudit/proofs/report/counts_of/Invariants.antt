use Rattle.std.proofs.Common.{◌≡◌, take}
use Rattle.ompt_events.specs.Causes.{entries_in}
use Rattle.taskaudit.specs.Reports.{creates_in, waits_in}
use Rattle.taskaudit.proofs.report.counts_of.Given as goal

-- the records so far are counted
abbrev pub invariant-loop-at : goal.invariant-loop-at
invariant-loop-at l = record {
  entries : l.entries ≡ entries_in (take l.at l.trace.records);
  tasks : l.tasks ≡ creates_in (take l.at l.trace.records);
  waits : l.waits ≡ waits_in (take l.at l.trace.records);
}
