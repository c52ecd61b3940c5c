use Rattle.wait_coverage.specs.Waits.{AreAwaitedMarked}
use Rattle.wait_coverage.proofs.waits.Search.find_awaited.Given as goal

-- the tasks so far are marked
abbrev pub invariant-loop-place : goal.invariant-loop-place
invariant-loop-place l =
    AreAwaitedMarked l.self.teams.run.records l.self.teams.run.family.tasks l.self.wait l.order l.place
    l.marks.items
