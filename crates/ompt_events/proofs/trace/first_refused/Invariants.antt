use Rattle.std.proofs.Common.{◌≡◌, take}
use Rattle.ompt_events.specs.Traces.{IsTraceOf, tasks_in}
use Rattle.ompt_events.proofs.trace.first_refused.Given as goal

-- the records so far are a trace, and their tasks are counted
abbrev pub invariant-loop-at : goal.invariant-loop-at
invariant-loop-at l = record {
  counted : l.tasks ≡ tasks_in (take l.at l.records);
  sound : IsTraceOf l.version (take l.at l.records);
}
