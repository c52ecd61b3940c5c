use Rattle.wait_coverage.specs.Numbers.{AreCreationCounts, AreNumbers}
use Rattle.wait_coverage.proofs.numbers.find_numbers.Given as goal

-- the numbers of the records so far, and of each task what the next record has
abbrev pub invariant-loop-at : goal.invariant-loop-at
invariant-loop-at l = record {
  counts : AreCreationCounts l.run.records l.at l.run.family.tasks l.counts.items;
  numbers : AreNumbers l.run.records l.at l.numbers.items;
}
