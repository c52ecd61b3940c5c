use Rattle.std.proofs.Common.{ℕ, ◌≤◌, length}
use Rattle.std.specs.Prelude.{slice_index}
use Rattle.checker.specs.Suspensions.{AreTurnEnds}
use Rattle.checker.proofs.suspensions.find_ends.Given as goal

-- the ends so far are in their slots
abbrev pub invariant-loop-at : goal.invariant-loop-at
invariant-loop-at l = record {
  within : (index : ℕ) → slice_index l.rows index ≤ length l.places.items;
  ends : AreTurnEnds l.run.records l.at l.run.family.tasks l.rows l.places.items;
}
