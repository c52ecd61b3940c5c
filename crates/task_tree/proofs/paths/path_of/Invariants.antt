use Rattle.std.proofs.Common.{ℕ, ◌≡◌, List, Some}
use Rattle.std.specs.Prelude.{slice_get}
use Rattle.ompt_events.specs.declared.records.Record.{Record}
use Rattle.ompt_events.specs.Tree.{HasPath}
use Rattle.task_tree.specs.Family.{IsFamilyOf}
use Rattle.task_tree.specs.Paths.{IsClimbed}
use Rattle.task_tree.proofs.paths.path_of.Given as goal

-- so many steps are climbed
abbrev pub invariant-loop-step : goal.invariant-loop-step
invariant-loop-step l =
    (records : List Record) → IsFamilyOf records l.family → (root task : ℕ) (path : List ℕ)
    → slice_get l.family.tasks l.index ≡ Some task → HasPath records root task path
    → IsClimbed records l.family.tasks root path l._step l.current l.numbers.items
