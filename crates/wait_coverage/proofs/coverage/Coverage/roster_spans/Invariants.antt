use Rattle.wait_coverage.specs.Coverage.{AreRosterSpans}
use Rattle.wait_coverage.proofs.coverage.Coverage.roster_spans.Given as goal

-- the spans of the members so far
abbrev pub invariant-loop-index : goal.invariant-loop-index
invariant-loop-index l =
    AreRosterSpans l.self.teams.run.records l.self.teams.run.family.tasks l.number l.roster l.index
    l.spans.items
