use Rattle.std.proofs.Common.{ℕ, ◌<◌}
use Rattle.ompt_events.specs.Causes.{IsBehind}
use Rattle.checker.specs.Lengths.{AreKnownLengths}
use Rattle.checker.proofs.lengths.find_back.Given as goal

-- what each thread knows, and no record so far names less than was known
abbrev pub invariant-loop-at : goal.invariant-loop-at
invariant-loop-at l = record {
  known : AreKnownLengths l.run.records l.at l.known;
  free : (k : ℕ) → k < l.at → IsBehind l.run.records k → ⊥;
}
