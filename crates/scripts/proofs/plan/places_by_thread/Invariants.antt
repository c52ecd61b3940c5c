use Rattle.std.specs.Prelude.{◌≤◌, length}
use Rattle.scripts.specs.Parts.{ArePlaces}
use Rattle.scripts.proofs.plan.places_by_thread.Given as goal

-- the places of the steps so far
abbrev pub invariant-loop-at : goal.invariant-loop-at
invariant-loop-at l = record {
  places : ArePlaces l.steps l.at l.threads.items;
  few : length l.threads.items ≤ 256;
}
