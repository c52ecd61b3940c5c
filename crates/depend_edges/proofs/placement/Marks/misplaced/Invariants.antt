use Rattle.ompt_events.specs.Causes.{HasMisplacedDeps}
use Rattle.ompt_events.specs.Shown.{AreAllBelow}
use Rattle.depend_edges.proofs.placement.Marks.misplaced.Given as goal

-- the records so far that are misplaced
abbrev pub invariant-loop-at : goal.invariant-loop-at
invariant-loop-at l = AreAllBelow (HasMisplacedDeps l.self.records) l.at l.shown
