use Rattle.std.proofs.Common.{◌≡◌}
use Rattle.std.specs.Prelude.{map, take}
use Rattle.wait_coverage.specs.Lengths.{done_length}
use Rattle.wait_coverage.proofs.done.find_own.Given as goal

-- the lengths so far
abbrev pub invariant-loop-index : goal.invariant-loop-index
invariant-loop-index l = l.own.items ≡ map done_length (take l.index l.lengths)
