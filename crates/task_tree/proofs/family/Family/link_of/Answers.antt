use Rattle.std.proofs.Common.{◌≡◌, ℕ, Some}
use Rattle.std.specs.Prelude.{◌↔◌, slice_get}
use Rattle.task_tree.proofs.FamilyLemmas.{table_at}
use Rattle.task_tree.proofs.family.Family.link_of.Goals as goal

pub returns : goal.returns
returns c =
    let exact : (k : ℕ)
    → (Some c.in_ok-index_of.field-0 ≡ Some k)
    ↔ (slice_get c.args.self.now.tasks k ≡ Some c.args.task) =
    rw (← c.self.view_is) (rw c.in_ok-index_of.was at c.index_of.ensures) in
    table_at c.args.self.now.tasks c.args.self.now.links c.args.task c.in_ok-index_of.field-0 c.link_at.result
    exact c.link_at.ensures
