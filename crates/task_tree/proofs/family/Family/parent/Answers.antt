use Rattle.std.proofs.Common.{◌≡◌, ℕ, Some, None}
use Rattle.std.specs.Prelude.{◌↔◌, slice_get}
use Rattle.ompt_events.specs.Tree.{IsParent}
use Rattle.task_tree.proofs.FamilyLemmas.{parent_is}
use Rattle.task_tree.proofs.family.Family.parent.Goals as goal

pub returns-in-None : goal.returns-in-None
returns-in-None c =
    λ records are.
    parent_is records c.args.self.now c.args.task None are (rw c.in-None.is at c.link_of.ensures)

pub returns-in-Some : goal.returns-in-Some
returns-in-Some c = λ records are.
    let exact : (parent : ℕ)
    → (slice_get c.args.self.now.tasks c.in-Some.link.parent ≡ Some parent)
    ↔ IsParent records parent c.args.task =
    parent_is records c.args.self.now c.args.task (Some c.in-Some.link) are
    (rw c.in-Some.is at c.link_of.ensures) in
    rw c.id_at.ensures (rw (← c.self.view_is) at exact)
