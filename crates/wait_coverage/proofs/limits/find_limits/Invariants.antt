use Rattle.wait_coverage.specs.Limits.{IsLimitProgress}
use Rattle.wait_coverage.specs.Meetings.{AreMet}
use Rattle.wait_coverage.proofs.limits.find_limits.Given as goal

-- what is known behind the records so far, and the begins so far have met
abbrev pub invariant-loop-at : goal.invariant-loop-at
invariant-loop-at l = record {
  noted : IsLimitProgress l.done l.at l.nodes.items l.progress;
  met : AreMet l.done l.at l.meetings.items;
}
