-- What the parent and the depth at an index say of the tree of tasks.
use Rattle.std.proofs.Common.{◌≡◌, ◌∙◌, ◌⊎◌, inl, inr, ℕ, ◌<◌, ◌+◌, List, [], ◌∷◌, ◌++◌, length, get_or}
use Rattle.std.proofs.Common.{Option, Some, None, refl, sym, ap, arith, length-append}
use Rattle.std.proofs.lemmas.Option.{none-some, same_Some, slice_get_within, slice_get-get_or}
use Rattle.std.specs.Prelude.{◌↔◌, slice_get, option_map}
use Rattle.std.specs.Option.{option_map_or, option_and_then}
use Rattle.ompt_events.specs.declared.records.Record.{Record}
use Rattle.ompt_events.specs.Records.{creation}
use Rattle.ompt_events.specs.Tree.{HasPath, below, children}
use Rattle.ompt_events.proofs.PlaceLemmas.{at_within}
use Rattle.ompt_events.proofs.TreeLemmas.{child_place, child_before}
use Rattle.ompt_events.proofs.ListLemmas.{contains_get}
use Rattle.task_tree.specs.declared.links.Link.{Link}
use Rattle.task_tree.specs.declared.roots.Standing.{Standing}
use Rattle.task_tree.specs.Family.{FamilyView, IsFamilyOf}
use Rattle.task_tree.specs.Lineage.{parent_index, depth_in, IsParentAt}
use Rattle.task_tree.proofs.FamilyLemmas.{one_path}
use Rattle.task_tree.proofs.PathLemmas.{root_known}
use Rattle.task_tree.proofs.RootlessLemmas.{path_rooted}

-- ---- what a table has at an index

-- what is read there
read_there : {X : Type 0} (table : List (Option X)) (index : ℕ) (found : Option X)
    → ((x : X) → (found ≡ Some x) ↔ (slice_get table index ≡ Some (Some x)))
    → (slice_get table index ≡ Some found) ⊎ ((slice_get table index ≡ None) × (found ≡ None))
read_there {X = X} table index None read = of (slice_get table index) refl
  where
    nothing : Option X
    nothing = None

    of : (o : Option (Option X)) → slice_get table index ≡ o
        → (o ≡ Some None) ⊎ ((o ≡ None) × (nothing ≡ None))
    of None e = inr (refl, refl)
    of (Some None) e = inl refl
    of (Some (Some x)) e = absurd (none-some x ((read x).1 e))
read_there table index (Some x) read = inl ((read x).0 refl)

pub parent_read : (family : FamilyView) (index : ℕ) (found : Option Link)
    → ((link : Link) → (found ≡ Some link) ↔ (slice_get family.links index ≡ Some (Some link)))
    → option_map (λ (l : Link). l.parent) found ≡ parent_index family index
parent_read family index found read = elim (read_there family.links index found read) [
  | inl there ↦ rw there refl
  | inr past ↦ rw (past.0, past.1) refl
]

pub depth_read : (family : FamilyView) (index : ℕ) (found : Option Standing)
    → ((standing : Standing)
    → (found ≡ Some standing) ↔ (slice_get family.roots index ≡ Some (Some standing)))
    → option_map_or (λ (s : Standing). s.depth) found 0 ≡ depth_in family index
depth_read family index found read = elim (read_there family.roots index found read) [
  | inl there ↦ rw there refl
  | inr past ↦ rw (past.0, past.1) refl
]

-- ---- the parent

-- the index is that of the task's parent
pub parent_is_at : (rs : List Record) (family : FamilyView) (index task up : ℕ) → IsFamilyOf rs family
    → slice_get family.tasks index ≡ Some task → parent_index family index ≡ Some up
    → IsParentAt rs family.tasks up task
parent_is_at rs family index task up are here is = of (slice_get family.links index) refl is
  where
    of : (o : Option (Option Link)) → slice_get family.links index ≡ o
        → option_and_then (λ p. option_map (λ (l : Link). l.parent) p) o ≡ Some up
        → IsParentAt rs family.tasks up task
    of None e says = absurd (none-some up says)
    of (Some None) e says = absurd (none-some up says)
    of (Some (Some link)) e says =
        let found = are.links.only index task link here e in
        let place = child_place rs found.0 (length rs) link.number task found.2 in (
          found.0,
          ap (slice_get family.tasks) (sym (same_Some link.parent up says)) ∙ found.1,
          (place.0, place.2),
        )

pub parent_at_is : (rs : List Record) (family : FamilyView) (index task up : ℕ) → IsFamilyOf rs family
    → slice_get family.tasks index ≡ Some task → IsParentAt rs family.tasks up task
    → parent_index family index ≡ Some up
parent_at_is rs family index task up are here (parent, is_up, (i, creates)) =
    let found =
    are.links.linked i parent task index up (at_within creation rs i (parent, task) creates) creates here
    is_up in
    ap (option_and_then (λ o. option_map (λ (l : Link). l.parent) o)) found.1 ∙ ap Some found.2

-- a parent has an index of its own
pub parent_within : (rs : List Record) (family : FamilyView) (index up : ℕ) → IsFamilyOf rs family
    → parent_index family index ≡ Some up → up < length family.tasks
parent_within rs family index up are is = of (slice_get family.links index) refl is
  where
    of : (o : Option (Option Link)) → slice_get family.links index ≡ o
        → option_and_then (λ p. option_map (λ (l : Link). l.parent) p) o ≡ Some up → up < length family.tasks
    of None e says = absurd (none-some up says)
    of (Some None) e says = absurd (none-some up says)
    of (Some (Some link)) e says =
        let inside = slice_get_within family.links index (Some link) e in
        let all = are.links.all in
        let task = get_or family.tasks index 0 in
        let at_index =
        parent_is_at rs family index task up are
        (slice_get-get_or family.tasks index 0 (omega (arith, inside, all)))
        (ap (option_and_then (λ o. option_map (λ (l : Link). l.parent) o)) e ∙ says) in
        slice_get_within family.tasks up at_index.0 at_index.1

-- so has a task that has one
pub child_within : (rs : List Record) (family : FamilyView) (index up : ℕ) → IsFamilyOf rs family
    → parent_index family index ≡ Some up → index < length family.tasks
child_within rs family index up are is = of (slice_get family.links index) refl is
  where
    of : (o : Option (Option Link)) → slice_get family.links index ≡ o
        → option_and_then (λ p. option_map (λ (l : Link). l.parent) p) o ≡ Some up
        → index < length family.tasks
    of None e says = absurd (none-some up says)
    of (Some link) e says =
        let inside = slice_get_within family.links index link e in
        let all = are.links.all in omega (arith, inside, all)

-- ---- the depth

-- it is as deep as its path is long
depth_is : (rs : List Record) (family : FamilyView) (index task root : ℕ) (path : List ℕ)
    → IsFamilyOf rs family → slice_get family.tasks index ≡ Some task → HasPath rs root task path
    → depth_in family index ≡ length path
depth_is rs family index task root path are here stands = of (slice_get family.roots index) refl
  where
    of : (o : Option (Option Standing)) → slice_get family.roots index ≡ o
        → option_map_or (λ p. option_map_or (λ (s : Standing). s.depth) p 0) o 0 ≡ length path
    of None e =
        let inside = slice_get_within family.tasks index task here in
        let all = are.roots.all in
        absurd
        (none-some (get_or family.roots index None)
        (sym e ∙ slice_get-get_or family.roots index None (omega (arith, inside, all))))
    of (Some None) e = absurd (are.roots.unrooted index task here e (path_rooted rs root task path stands))
    of (Some (Some standing)) e =
        let known = are.roots.rooted index task standing here e in
        sym known.2 ∙ ap length (one_path rs standing.root root task known.0 path are.once known.1 stands).1

-- a task stands one step deeper than its parent
pub parent_depth : (rs : List Record) (family : FamilyView) (index task up : ℕ) → IsFamilyOf rs family
    → slice_get family.tasks index ≡ Some task → parent_index family index ≡ Some up
    → depth_in family index ≡ depth_in family up + 1
parent_depth rs family index task up are here is =
    let above = parent_is_at rs family index task up are here is in
    let created = above.2 in
    let stands = root_known rs family above.0 up are above.1 in
    let number =
    contains_get (children rs above.0) task
    (child_before rs above.0 task (length rs) created.0
    (at_within creation rs created.0 (above.0, task) created.1) created.1) in
    depth_is rs family index task stands.0 (stands.1 ++ number.0 ∷ []) are here
    (below number.0 stands.2 number.1)
    ∙ length-append stands.1 (number.0 ∷ [])
    ∙ ap (λ n. n + 1) (sym (depth_is rs family up above.0 stands.0 stands.1 are above.1 stands.2))
