use Rattle.wait_coverage.specs.Done.{AreRanked}
use Rattle.wait_coverage.proofs.order.by_depth.Given as goal

-- the tasks so far with their depths
abbrev pub invariant-loop-index : goal.invariant-loop-index
invariant-loop-index l = AreRanked l.family l.index l.ranked.items
