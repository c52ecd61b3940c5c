-- What the tables of a family say of the tree of tasks.
use Rattle.std.proofs.Common.{◌≡◌, ◌∙◌, ℕ, ◌<◌, List, [], ◌∷◌, ◌++◌, length, get_or, Option, Some, None, refl}
use Rattle.std.proofs.Common.{sym, ap, subst, arith, inl, inr}
use Rattle.std.proofs.lemmas.Option.{none-some, same_Some, slice_get_within, slice_get-get_or}
use Rattle.std.specs.Prelude.{◌↔◌, slice_get, Contains, option_map, option_and_then}
use Rattle.ompt_events.specs.declared.records.Record.{Record}
use Rattle.ompt_events.specs.declared.records.Body.{Body}
use Rattle.ompt_events.specs.declared.records.Body.TheVariants.{TaskCreate}
use Rattle.ompt_events.specs.declared.cause.Cause.TheVariants.{CreatedTwice, Rootless}
use Rattle.ompt_events.specs.Records.{made, begun_root, created, creation, named}
use Rattle.ompt_events.specs.Places.{at}
use Rattle.ompt_events.specs.Tree.{IsParent, IsChild, HasPath, top, below, children}
use Rattle.ompt_events.specs.Causes.{unmade, rootless, IsFreeOf}
use Rattle.ompt_events.proofs.PlaceLemmas.{at_within}
use Rattle.ompt_events.proofs.RecordLemmas.{begun_at_made, creation_at_created, root_or_created}
use Rattle.ompt_events.proofs.ListLemmas.{contains_get}
use Rattle.ompt_events.proofs.TreeLemmas.{child_place, before_child}
use Rattle.task_tree.specs.declared.links.Link.{Link}
use Rattle.task_tree.specs.Makers.{AreNoted, AreMade}
use Rattle.task_tree.specs.Family.{FamilyView, IsFamilyOf, AreInFileOrder, IsLinkOf, IsStandingOf}
use Rattle.task_tree.specs.declared.roots.Standing.{Standing}
use Rattle.task_tree.proofs.OnceLemmas.{made_once, creation_made, one_number}
use Rattle.index_tables.proofs.NumberingLemmas.{contains_or_not}
use Rattle.task_tree.proofs.RootLemmas.{rooted_made}
use Rattle.task_tree.proofs.RootlessLemmas.{path_rooted}

-- ---- where each task is made once

-- a root is not created
root_not_created : (rs : List Record) (i root parent : ℕ) → at begun_root rs i ≡ Some root
    → at creation rs i ≡ Some (parent, root) → ⊥
root_not_created rs i root parent begins creates =
    there (slice_get rs i) begins (creation_at_created parent root rs i creates)
  where
    there : (o : Option Record) → option_and_then (λ (r : Record). begun_root r.body) o ≡ Some root
        → option_and_then (λ (r : Record). created r.body) o ≡ Some root → ⊥
    there None is is' = none-some root is
    there (Some r) is is' = root_or_created root root r.body is is'

root_no_child : (rs : List Record) (root parent number : ℕ) → IsFreeOf rs CreatedTwice
    → (i : ℕ) × (at begun_root rs i ≡ Some root) → IsChild rs parent number root → ⊥
root_no_child rs root parent number free (i, begins) is =
    let place = child_place rs parent (length rs) number root is in
    let same : i ≡ place.0 =
    made_once rs root i place.0 free (begun_at_made root rs i begins)
    (creation_made rs parent root place.0 place.2) in
    root_not_created rs i root parent begins (ap (at creation rs) same ∙ place.2)

-- and so are its root and its path
pub one_path : (rs : List Record) (root other task : ℕ) (path another : List ℕ) → IsFreeOf rs CreatedTwice
    → HasPath rs root task path → HasPath rs other task another → (root ≡ other) × (path ≡ another)
one_path rs root other task path another free (top is) (top is') = (refl, refl)
one_path rs root other task path another free (top is) (below number {parent = parent} stands child) =
    absurd (root_no_child rs task parent number free is child)
one_path rs root other task path another free (below number {parent = parent} stands child) (top is) =
    absurd (root_no_child rs task parent number free is child)
one_path rs root other task path another free (below number {parent = parent} {path = up} stands child)
    (below number' {parent = parent'} {path = up'} stands' child') =
    let same = one_number rs task parent parent' number number' free child child' in
    let P : ℕ → Type 0 = λ p. HasPath rs other p up' in
    let above = one_path rs root other parent up up' free stands (subst P (sym same.0) stands') in
    (above.0, ap (λ l. l ++ number ∷ []) above.1 ∙ ap (λ n. up' ++ n ∷ []) same.1)

-- ---- where no task lacks a root

-- the parent of a created task is named with it
parent_named : (parent task : ℕ) (b : Body) → creation b ≡ Some (parent, task) → Contains (named b) parent
parent_named parent task (TaskCreate deps flags own child) is =
    (0, omega arith, ap (λ (p : ℕ × ℕ). p.0) (same_Some (own, child) (parent, task) is))
parent_named parent task _ is = absurd (none-some (parent, task) is)

-- so it is noted
pub parent_noted : (rs : List Record) (tasks : List ℕ) (i parent task : ℕ)
    → AreNoted made rs (length rs) tasks → IsFreeOf rs Rootless → at creation rs i ≡ Some (parent, task)
    → Contains tasks parent
parent_noted rs tasks i parent task noted free creates = elim (contains_or_not tasks parent) [
  | inl has ↦ has
  | inr none ↦
      absurd
      (free i
      (rootless
      (unmade parent (there (slice_get rs i) refl creates)
      (λ is_made.
      none
      (noted.each is_made.0 parent (at_within made rs is_made.0 parent is_made.1)
      is_made.1)))))
]
  where
    there : (o : Option Record) → slice_get rs i ≡ o
        → option_and_then (λ (r : Record). creation r.body) o ≡ Some (parent, task)
        → (r : Record) × (slice_get rs i ≡ Some r) × Contains (named r.body) parent
    there None e is = absurd (none-some (parent, task) is)
    there (Some r) e is = (r, e, parent_named parent task r.body is)

-- ---- the look-ups

-- the link of a created task
pub link_found : (rs : List Record) (family : FamilyView) (i parent task : ℕ) → IsFamilyOf rs family
    → at creation rs i ≡ Some (parent, task)
    → (link : Link) × IsLinkOf family task link × (slice_get family.tasks link.parent ≡ Some parent)
link_found rs family i parent task are creates =
    let within = at_within creation rs i (parent, task) creates in
    let index =
    contains_get family.tasks task
    (are.noted.each i task within (creation_made rs parent task i creates)) in
    let up =
    contains_get family.tasks parent
    (parent_noted rs family.tasks i parent task are.noted are.rooted creates) in
    let found = are.links.linked i parent task index.0 up.0 within creates index.1 up.1 in
    (found.0, (index.0, index.1, found.1), ap (slice_get family.tasks) found.2 ∙ up.1)

-- a link is that of a child
pub link_child : (rs : List Record) (family : FamilyView) (task : ℕ) (link : Link) → IsFamilyOf rs family
    → IsLinkOf family task link
    → (parent : ℕ) × (slice_get family.tasks link.parent ≡ Some parent) × IsChild rs parent link.number task
link_child rs family task link are (index, is, stands) = are.links.only index task link is stands

pub parent_is : (rs : List Record) (family : FamilyView) (task : ℕ) (found : Option Link)
    → IsFamilyOf rs family → ((link : Link) → (found ≡ Some link) ↔ IsLinkOf family task link) → (parent : ℕ)
    → (option_and_then (λ (l : Link). slice_get family.tasks l.parent) found ≡ Some parent)
    ↔ IsParent rs parent task
parent_is rs family task found are is parent = (to found refl, from)
  where
    to : (o : Option Link) → found ≡ o
        → option_and_then (λ (l : Link). slice_get family.tasks l.parent) o ≡ Some parent
        → IsParent rs parent task
    to None e says = absurd (none-some parent says)
    to (Some link) e says =
        let of = link_child rs family task link are ((is link).0 e) in
        let place = child_place rs of.0 (length rs) link.number task of.2 in
        (place.0, place.2 ∙ ap (λ p. Some (p, task)) (same_Some of.0 parent (sym of.1 ∙ says)))

    from : IsParent rs parent task
        → option_and_then (λ (l : Link). slice_get family.tasks l.parent) found ≡ Some parent
    from (i, creates) =
        let link = link_found rs family i parent task are creates in
        ap (option_and_then (λ (l : Link). slice_get family.tasks l.parent)) ((is link.0).1 link.1) ∙ link.2

pub number_is : (rs : List Record) (family : FamilyView) (task : ℕ) (found : Option Link)
    → IsFamilyOf rs family → ((link : Link) → (found ≡ Some link) ↔ IsLinkOf family task link) → (number : ℕ)
    → (option_map (λ (l : Link). l.number) found ≡ Some number)
    ↔ ((parent : ℕ) × IsChild rs parent number task)
number_is rs family task found are is number = (to found refl, from)
  where
    to : (o : Option Link) → found ≡ o → option_map (λ (l : Link). l.number) o ≡ Some number
        → (parent : ℕ) × IsChild rs parent number task
    to None e says = absurd (none-some number says)
    to (Some link) e says =
        let of = link_child rs family task link are ((is link).0 e) in
        let P : ℕ → Type 0 = λ n. IsChild rs of.0 n task in
        (of.0, subst P (same_Some link.number number says) of.2)

    from : (parent : ℕ) × IsChild rs parent number task
        → option_map (λ (l : Link). l.number) found ≡ Some number
    from (parent, child) =
        let place = child_place rs parent (length rs) number task child in
        let link = link_found rs family place.0 parent task are place.2 in
        let of = link_child rs family task link.0 are link.1 in
        let same = one_number rs task of.0 parent link.0.number number are.once of.2 child in
        ap (option_map (λ (l : Link). l.number)) ((is link.0).1 link.1) ∙ ap Some same.1

-- a task that stands below a root is noted
pub path_noted : (rs : List Record) (tasks : List ℕ) (root task : ℕ) (path : List ℕ)
    → AreNoted made rs (length rs) tasks → HasPath rs root task path → Contains tasks task
path_noted rs tasks root task path noted stands =
    let maker = rooted_made rs task (path_rooted rs root task path stands) in
    noted.each maker.0 task (at_within made rs maker.0 task maker.1) maker.1

-- where a task stands is one place
pub standing_is : (rs : List Record) (family : FamilyView) (task : ℕ) (found : Option Standing)
    → IsFamilyOf rs family
    → ((standing : Standing) → (found ≡ Some standing) ↔ IsStandingOf family task standing)
    → (root : ℕ) (path : List ℕ) → HasPath rs root task path
    → (standing : Standing) × (found ≡ Some standing) × (standing.root ≡ root)
    × (standing.depth ≡ length path)
standing_is rs family task found are is root path stands =
    let index = contains_get family.tasks task (path_noted rs family.tasks root task path are.noted stands) in
    let within = slice_get_within family.tasks index.0 task index.1 in
    from index.0 index.1 (get_or family.roots index.0 None)
    (slice_get-get_or family.roots index.0 None (omega (arith, within, are.roots.all)))
  where
    from : (index : ℕ) → slice_get family.tasks index ≡ Some task → (o : Option Standing)
        → slice_get family.roots index ≡ Some o
        → (standing : Standing) × (found ≡ Some standing) × (standing.root ≡ root)
        × (standing.depth ≡ length path)
    from index is_task None e =
        absurd (are.roots.unrooted index task is_task e (path_rooted rs root task path stands))
    from index is_task (Some standing) e =
        let known = are.roots.rooted index task standing is_task e in
        let same = one_path rs standing.root root task known.0 path are.once known.1 stands in
        (standing, (is standing).1 (index, is_task, e), same.0, sym known.2 ∙ ap length same.1)

pub root_is : (rs : List Record) (family : FamilyView) (task : ℕ) (found : Option Standing)
    → IsFamilyOf rs family
    → ((standing : Standing) → (found ≡ Some standing) ↔ IsStandingOf family task standing) → (root : ℕ)
    → (option_map (λ (s : Standing). s.root) found ≡ Some root)
    ↔ ((path : List ℕ) × HasPath rs root task path)
root_is rs family task found are is root = (to found refl, from)
  where
    to : (o : Option Standing) → found ≡ o → option_map (λ (s : Standing). s.root) o ≡ Some root
        → (path : List ℕ) × HasPath rs root task path
    to None e says = absurd (none-some root says)
    to (Some standing) e says =
        let known = (is standing).0 e in
        let stands = are.roots.rooted known.0 task standing known.1 known.2 in
        let P : ℕ → Type 0 = λ r. HasPath rs r task stands.0 in
        (stands.0, subst P (same_Some standing.root root says) stands.1)

    from : (path : List ℕ) × HasPath rs root task path
        → option_map (λ (s : Standing). s.root) found ≡ Some root
    from (path, stands) =
        let standing = standing_is rs family task found are is root path stands in
        ap (option_map (λ (s : Standing). s.root)) standing.1 ∙ ap Some standing.2

-- a task that is not noted has no children
pub no_children : (rs : List Record) (family : FamilyView) (task : ℕ) → IsFamilyOf rs family
    → (Contains family.tasks task → ⊥) → children rs task ≡ []
no_children rs family task are none = of (children rs task) refl
  where
    of : (l : List ℕ) → children rs task ≡ l → l ≡ []
    of [] e = refl
    of (child ∷ rest) e =
        let P : List ℕ → Type 0 = λ l. Contains l child in
        let place = before_child rs task child (length rs) (subst P (sym e) (0, omega arith, refl)) in
        absurd (none (parent_noted rs family.tasks place.0 task child are.noted are.rooted place.2))

-- what a table has at a task's index is what it says of the task
pub table_at : {X : Type 0} (tasks : List ℕ) (table : List (Option X)) (task index : ℕ) (found : Option X)
    → ((k : ℕ) → (Some index ≡ Some k) ↔ (slice_get tasks k ≡ Some task))
    → ((x : X) → (found ≡ Some x) ↔ (slice_get table index ≡ Some (Some x))) → (x : X)
    → (found ≡ Some x) ↔ ((k : ℕ) × (slice_get tasks k ≡ Some task) × (slice_get table k ≡ Some (Some x)))
table_at tasks table task index found is read x = (
  λ says. (index, (is index).0 refl, (read x).0 says),
  λ (k, is_task, stands). (read x).1 (ap (slice_get table) (same_Some index k ((is k).1 is_task)) ∙ stands),
)

-- where the task at an index stands
pub standing_here : (rs : List Record) (family : FamilyView) (index task : ℕ) (found : Option Standing)
    → IsFamilyOf rs family → slice_get family.tasks index ≡ Some task
    → ((standing : Standing)
    → (found ≡ Some standing) ↔ (slice_get family.roots index ≡ Some (Some standing)))
    → (root : ℕ) (path : List ℕ) → HasPath rs root task path
    → (standing : Standing) × (found ≡ Some standing) × (standing.root ≡ root)
    × (standing.depth ≡ length path)
standing_here rs family index task found are here read root path stands =
    standing_is rs family task found are
    (table_at family.tasks family.roots task index found
    (λ k. (
      λ same.
          ap (slice_get family.tasks) (sym (same_Some index k same)) ∙ here,
      λ is. ap Some (are.makers.apart index k task here is),
    ))
    read)
    root path stands

-- the tasks stand in the order in which they are made
pub in_file_order : (rs : List Record) (tasks places : List ℕ) → AreMade rs (length rs) tasks places
    → IsFreeOf rs CreatedTwice → AreInFileOrder rs tasks
in_file_order rs tasks places are once a b first second place later less at_a at_b makes_first makes_second =
    let one = are.each a first at_a in
    let other = are.each b second at_b in
    let low : one.0 < other.0 = are.in_order.rising a b one.0 other.0 less one.1 other.1 in
    let same_place = made_once rs first one.0 place once one.3 makes_first in
    let same_later = made_once rs second other.0 later once other.3 makes_second in
    omega (arith, low, same_place, same_later)
