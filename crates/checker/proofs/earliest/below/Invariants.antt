use Rattle.std.proofs.Common.{◌≡◌}
use Rattle.std.specs.Prelude.{filter, take}
use Rattle.checker.specs.Counter.{is_below}
use Rattle.checker.proofs.earliest.below.Given as goal

-- the places so far are those below their bounds of the first records of the order
abbrev pub invariant-loop-before : goal.invariant-loop-before
invariant-loop-before l =
    l.places.items ≡ filter (is_below l.run.records l.bounds) (take l.before l.ordered.order)
