use Rattle.std.proofs.Common.{◌≡◌, ◌<◌, ◌∙◌, ℕ, length, Some, None, sym, ap, arith, rules}
use Rattle.std.proofs.lemmas.Option.{none-some, slice_get_within}
use Rattle.std.specs.Prelude.{◌↔◌, slice_get}
use Rattle.ompt_events.proofs.ListLemmas.{contains_get}
use Rattle.task_tree.specs.Families.{own_family}
use Rattle.task_tree.specs.Paths.{TreeView}
use Rattle.task_tree.proofs.PathLemmas.{path_is, path_none}
use Rattle.task_tree.proofs.TreeLemmas.{path_found}
use Rattle.task_tree.proofs.tree.Tree.path.Goals as goal

pub index-requires : goal.index-requires
index-requires c =
    let same = c.family.ensures ∙ ap (λ (t : TreeView). own_family t.families) (sym c.self.view_is) in
    let exact : (k : ℕ)
    → (c.index_of.result ≡ Some k)
    ↔ (slice_get (own_family c.self.inside.families).tasks k ≡ Some c.args.task) =
    rw (c.tasks.ensures, same) at c.index_of.ensures in
    let inside =
    slice_get_within (own_family c.self.inside.families).tasks c.in-Some.index c.args.task
    ((exact c.in-Some.index).0 c.in-Some.is) in
    let aligned = c.self.invariant in
    let within : c.in-Some.index < length c.self.inside.paths.items = omega (arith, inside, aligned) in
    search rules

pub returns-in-Some : goal.returns-in-Some
returns-in-Some c = λ records are.
    let same = c.family.ensures ∙ ap (λ (t : TreeView). own_family t.families) (sym c.self.view_is) in
    let own = rw (← c.self.view_is) at are in
    let exact : (k : ℕ)
    → (c.index_of.result ≡ Some k)
    ↔ (slice_get (own_family c.self.inside.families).tasks k ≡ Some c.args.task) =
    rw (c.tasks.ensures, same) at c.index_of.ensures in
    let is = (exact c.in-Some.index).0 c.in-Some.is in
    let inside = slice_get_within (own_family c.self.inside.families).tasks c.in-Some.index c.args.task is in
    let aligned = c.self.invariant in
    rw c.as_slice.ensures.value (path_found records _ c.args.task (Some c.index.result.now.items) own
    (λ rs family paths.
    path_is rs _ _ c.args.task c.in-Some.index c.index.result.now family paths is
    (omega (arith, inside, aligned)) c.index.ensures))

pub returns-in-None : goal.returns-in-None
returns-in-None c = λ records are.
    let same = c.family.ensures ∙ ap (λ (t : TreeView). own_family t.families) (sym c.self.view_is) in
    let own = rw (← c.self.view_is) at are in
    let exact : (k : ℕ)
    → (c.index_of.result ≡ Some k)
    ↔ (slice_get (own_family c.self.inside.families).tasks k ≡ Some c.args.task) =
    rw (c.tasks.ensures, same) at c.index_of.ensures in
    path_found records _ c.args.task None own
    (λ rs family paths.
    path_none rs _ c.args.task family
    (λ has.
    let at = contains_get (own_family c.self.inside.families).tasks c.args.task has in
    none-some at.0 (sym c.in-None.is ∙ (exact at.0).1 at.1)))
