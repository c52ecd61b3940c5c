use Rattle.std.proofs.Common.{ℕ, ◌≡◌, List, Some, length}
use Rattle.std.specs.Prelude.{slice_get}
use Rattle.ompt_events.specs.declared.records.Record.{Record}
use Rattle.ompt_events.specs.Tree.{HasPath}
use Rattle.task_tree.specs.Family.{IsFamilyOf}
use Rattle.task_tree.proofs.ClimbLemmas.{IsClimbing}
use Rattle.task_tree.proofs.family.Family.climbs.Given as goal

-- so many steps are climbed, and the paths agree so far
abbrev pub invariant-loop-step : goal.invariant-loop-step
invariant-loop-step l =
    (records : List Record) → IsFamilyOf records l.self → (root task : ℕ) (whole : List ℕ)
    → slice_get l.self.tasks l.index ≡ Some task → HasPath records root task whole
    → length whole ≡ length l.path → IsClimbing records l.self.tasks root whole l.path l.step l.current
