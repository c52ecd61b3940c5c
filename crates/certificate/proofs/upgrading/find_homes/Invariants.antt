use Rattle.std.proofs.Common.{ℕ, ◌<◌}
use Rattle.ompt_events.specs.Upgrades.{Moves}
use Rattle.certificate.specs.TaskTurns.{AreHomesNoted}
use Rattle.certificate.proofs.upgrading.find_homes.Given as goal

-- the homes by the records so far, at none of which a task moves
abbrev pub invariant-loop-at : goal.invariant-loop-at
invariant-loop-at l = record {
  homes : AreHomesNoted l.records l.at l.table;
  stay : (k : ℕ) → k < l.at → Moves l.records k → ⊥;
}
