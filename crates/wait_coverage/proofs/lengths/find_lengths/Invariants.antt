use Rattle.wait_coverage.specs.Lengths.{AreLengths}
use Rattle.wait_coverage.proofs.lengths.find_lengths.Given as goal

-- the lengths by the records so far are known
abbrev pub invariant-loop-at : goal.invariant-loop-at
invariant-loop-at l = AreLengths l.run.records l.at l.run.family.tasks l.table.items
