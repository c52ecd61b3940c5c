use Rattle.std.proofs.Common.{ℕ, ◌≡◌, ◌<◌, false}
use Rattle.ompt_events.specs.Causes.{IsMoved}
use Rattle.task_states.specs.Homes.{IsNeverEarly}
use Rattle.task_states.proofs.HomeLemmas.{AreHomesBelow}
use Rattle.task_states.proofs.homes.find_moved.Given as goal

-- it is known where each task ran so far, none moved untold, and whether any event was fulfilled early
abbrev pub invariant-loop-at : goal.invariant-loop-at
invariant-loop-at l = record {
  homes : AreHomesBelow l.run.records l.at l.run.family.tasks l.homes.items;
  free : (k : ℕ) → k < l.at → IsMoved l.run.records k → ⊥;
  early : l.any_early ≡ false → IsNeverEarly l.run.records l.at;
}
