use Rattle.ompt_events.specs.Causes.{IsAhead}
use Rattle.ompt_events.specs.Shown.{AreAllBelow}
use Rattle.checker.proofs.makers.find_ahead.Given as goal

-- these are the records so far that are ahead
abbrev pub invariant-loop-at : goal.invariant-loop-at
invariant-loop-at l = AreAllBelow (IsAhead l.run.records) l.at l.shown
