use Rattle.std.proofs.Common.{◌≡◌, ◌≤◌, ◌^◌, length}
use Rattle.std.specs.Prelude.{All}
use Rattle.checker.specs.Suspensions.{AreRowLengths}
use Rattle.checker.proofs.suspensions.row_lengths.Given as goal

-- the rows are long enough for the turns that begin so far
abbrev pub invariant-loop-at : goal.invariant-loop-at
invariant-loop-at l = record {
  all : length l.lengths.items ≡ length l.run.family.tasks;
  low : All (λ n. n ≤ 2 ^ 32) l.lengths.items;
  before : AreRowLengths l.run.records l.at l.run.family.tasks l.lengths.items;
}
