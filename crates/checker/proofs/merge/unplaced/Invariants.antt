use Rattle.ompt_events.specs.Shown.{AreAllBelow}
use Rattle.checker.specs.Merge.{IsUnplaced}
use Rattle.checker.proofs.merge.unplaced.Given as goal

-- these are the records so far that are not placed
abbrev pub invariant-loop-at : goal.invariant-loop-at
invariant-loop-at l = AreAllBelow (IsUnplaced l.placed) l.at l.shown
