use Rattle.wait_coverage.specs.Meetings.{AreMeetingsAdded}
use Rattle.wait_coverage.proofs.meetings.add_meetings.Given as goal

-- the meetings are added at each record so far
abbrev pub invariant-loop-at : goal.invariant-loop-at
invariant-loop-at l = AreMeetingsAdded l.done l.at l.nodes.items
