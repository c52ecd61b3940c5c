use Rattle.checker.specs.Counter.{MakesBelow, AreRaisedTo}
use Rattle.checker.proofs.before.raise_to_makers.Given as goal

-- the bounds are raised to the makers of the entries so far
abbrev pub invariant-loop-entry : goal.invariant-loop-entry
invariant-loop-entry l =
    AreRaisedTo l.makers.run.records (MakesBelow l.makers.run.records l.entry) l.initial.bounds l.bounds
