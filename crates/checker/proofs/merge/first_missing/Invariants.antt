use Rattle.std.proofs.Common.{◌<◌, ◌≤◌, ℕ, length}
use Rattle.std.specs.Prelude.{slice_index}
use Rattle.checker.specs.Merge.{Stands}
use Rattle.checker.proofs.merge.first_missing.Given as goal

-- the makers of the entries so far stand
abbrev pub invariant-loop-entry : goal.invariant-loop-entry
invariant-loop-entry l =
    (k : ℕ) → l.from ≤ k → k < l.entry → slice_index l.makers k < length l.placed
    → Stands l.placed (slice_index l.makers k)
