-- The siblings that are selected are the predecessors.
use Rattle.std.proofs.Common.{◌≡◌, ◌∙◌, ℕ, ◌<◌, ◌+◌, List, [], ◌∷◌, ◌++◌, length, Some, None, refl, sym, ap}
use Rattle.std.proofs.Common.{subst, arith, inl, inr, ◌⊎◌}
use Rattle.std.proofs.lemmas.Bool.{cases_lt}
use Rattle.std.proofs.lemmas.Option.{none-some, same_Some, slice_get_within}
use Rattle.std.specs.Prelude.{◌↔◌, slice_get, Contains}
use Rattle.ompt_events.specs.declared.records.Record.{Record}
use Rattle.ompt_events.specs.declared.deps.Dep.{Dep}
use Rattle.ompt_events.specs.declared.cause.Cause.TheVariants.{CreatedTwice}
use Rattle.ompt_events.specs.Tree.{IsParent, IsChild, children}
use Rattle.ompt_events.specs.Causes.{IsFreeOf}
use Rattle.ompt_events.specs.Dependences.{DependsOn}
use Rattle.ompt_events.proofs.ListLemmas.{get_contains, contains_get, get_pushed, get_last, pushed_cases}
use Rattle.ompt_events.proofs.TreeLemmas.{child_place}
use Rattle.task_tree.specs.Lineage.{parent_index}
use Rattle.task_tree.specs.Runs.{RunView, IsRun}
use Rattle.task_tree.proofs.FamilyLemmas.{parent_noted}
use Rattle.task_tree.proofs.LineageLemmas.{parent_at_is}
use Rattle.task_tree.proofs.OnceLemmas.{one_number}
use Rattle.depend_edges.specs.Edges.{ArePredecessors}
use Rattle.depend_edges.specs.Items.{HaveClash, ClashesWith}
use Rattle.depend_edges.specs.Predecessors.{IsSelected, AreSelected}
use Rattle.depend_edges.proofs.LatestLemmas.{child_index}

-- the items that were found are those of the task
pub clash_with : (rs : List Record) (task : ℕ) (earlier items : List Dep)
    → ((dep : Dep) → Contains earlier dep ↔ DependsOn rs task dep) → HaveClash earlier items
    → ClashesWith rs task items
clash_with rs task earlier items are (item, has, (other, there, clash)) =
    (item, other, has, (are other).0 there, clash)

pub with_clash : (rs : List Record) (task : ℕ) (earlier items : List Dep)
    → ((dep : Dep) → Contains earlier dep ↔ DependsOn rs task dep) → ClashesWith rs task items
    → HaveClash earlier items
with_clash rs task earlier items are (item, other, has, depends, clash) =
    (item, has, (other, (are other).1 depends, clash))

-- ---- one sibling more

selected_on : (rs : List Record) (items : List Dep) (siblings : List ℕ) (n task number : ℕ)
    → IsSelected rs items siblings n task number → IsSelected rs items siblings (n + 1) task number
selected_on rs items siblings n task number is = record {
  below = let below = is.below in omega (arith, below);
  stands = is.stands;
  clashes = is.clashes;
}

selected_cases : (rs : List Record) (items : List Dep) (siblings : List ℕ) (n own task number : ℕ)
    → slice_get siblings n ≡ Some own → IsSelected rs items siblings (n + 1) task number
    → IsSelected rs items siblings n task number ⊎ ((own ≡ task) × ClashesWith rs own items)
selected_cases rs items siblings n own task number here is = elim (cases_lt number n) [
  | inl less ↦ inl (record { below = less; stands = is.stands; clashes = is.clashes })
  | inr more ↦
      let below = is.below in
      let same : n ≡ number = omega (arith, below) in
      let its : own ≡ task = same_Some own task (sym here ∙ ap (slice_get siblings) same ∙ is.stands) in
      let P : ℕ → Type 0 = λ t. ClashesWith rs t items in
      inr (its, subst P (sym its) is.clashes)
]

pub selected_other : (rs : List Record) (items : List Dep) (siblings found : List ℕ) (n own : ℕ)
    → slice_get siblings n ≡ Some own → (ClashesWith rs own items → ⊥) → AreSelected rs items siblings n found
    → AreSelected rs items siblings (n + 1) found
selected_other rs items siblings found n own here none are = record {
  all = λ task number is. elim (selected_cases rs items siblings n own task number here is) [
    | inl old ↦ are.all task number old
    | inr new ↦ absurd (none new.1)
  ];
  only =
      λ a task is. let old = are.only a task is in (old.0, selected_on rs items siblings n task old.0 old.1);
  rising = are.rising;
}

pub selected_more : (rs : List Record) (items : List Dep) (siblings found : List ℕ) (n own : ℕ)
    → slice_get siblings n ≡ Some own → ClashesWith rs own items → AreSelected rs items siblings n found
    → AreSelected rs items siblings (n + 1) (found ++ own ∷ [])
selected_more rs items siblings found n own here clashes are = record {
  all = λ task number is. elim (selected_cases rs items siblings n own task number here is) [
    | inl old ↦
        let at = contains_get found task (are.all task number old) in
        get_contains (found ++ own ∷ []) task at.0 (get_pushed found own task at.0 at.1)
    | inr new ↦
        get_contains (found ++ own ∷ []) task (length found)
        (get_last found own (length found) refl ∙ ap Some new.0)
  ];
  only = λ a task is. elim (pushed_cases found own task a is) [
    | inl before ↦
        let old = are.only a task before in (old.0, selected_on rs items siblings n task old.0 old.1)
    | inr last ↦
        let P : ℕ → Type 0 = λ t. IsSelected rs items siblings (n + 1) t n in
        (n, subst P last.1 last_selected)
  ];
  rising = λ a b before behind less first second. elim (pushed_cases found own behind b second) [
    | inl old ↦
        are.rising a b before behind less
        (first_old a b before behind less first (slice_get_within found b behind old)) old
    | inr last ↦
        let old = are.only a before (first_old_last a b before less first last.0) in
        let below = old.1.below in
        (old.0, n, below, old.1.stands, here ∙ ap Some last.1)
  ];
}
  where
    last_selected : IsSelected rs items siblings (n + 1) own n
    last_selected = record { below = omega arith; stands = here; clashes = clashes }

    first_old : (a b before behind : ℕ) → a < b → slice_get (found ++ own ∷ []) a ≡ Some before
        → b < length found → slice_get found a ≡ Some before
    first_old a b before behind less first within = elim (pushed_cases found own before a first) [
      | inl old ↦ old
      | inr last ↦ let same = last.0 in absurd (omega (arith, same))
    ]

    first_old_last : (a b before : ℕ) → a < b → slice_get (found ++ own ∷ []) a ≡ Some before
        → b ≡ length found → slice_get found a ≡ Some before
    first_old_last a b before less first end = elim (pushed_cases found own before a first) [
      | inl old ↦ old
      | inr last ↦ let same = last.0 in absurd (omega (arith, same))
    ]

-- ---- the predecessors

pub selected_predecessors : (rs : List Record) (task parent number : ℕ) (items : List Dep) (found : List ℕ)
    → IsFreeOf rs CreatedTwice → IsChild rs parent number task
    → ((dep : Dep) → Contains items dep ↔ DependsOn rs task dep)
    → AreSelected rs items (children rs parent) number found → ArePredecessors rs task found
selected_predecessors rs task parent number items found once child are selected = record {
  all = λ other is.
      let same = one_number rs task is.parent parent is.number number once is.is_child child in
      let P : ℕ → Type 0 = λ p. IsChild rs p is.earlier other in
      selected.all other is.earlier (record {
        below = let smaller = is.smaller in let same_number = same.1 in omega (arith, smaller, same_number);
        stands = subst P same.0 is.sibling;
        clashes = (
          is.item,
          is.other,
          (are is.item).1 is.depends,
          is.other_depends,
          (is.same_location, is.conflicting),
        );
      });
  only = λ other has.
      let place = contains_get found other has in
      let from = selected.only place.0 other place.1 in
      let clashes = from.1.clashes in
      record {
        parent = parent;
        number = number;
        is_child = child;
        earlier = from.0;
        sibling = from.1.stands;
        smaller = from.1.below;
        item = clashes.0;
        depends = (are clashes.0).0 clashes.2;
        other = clashes.1;
        other_depends = clashes.3;
        same_location = clashes.4.0;
        conflicting = clashes.4.1;
      };
  rising = λ a b before behind up lower greater less first second is_first is_second.
      let order = selected.rising a b before behind less first second in
      let one = one_number rs before parent up order.0 lower once order.3 is_first in
      let two = one_number rs behind parent up order.1 greater once order.4 is_second in
      let same_one = one.1 in
      let same_two = two.1 in
      let smaller = order.2 in
      omega (arith, same_one, same_two, smaller);
}

pub no_predecessors : (rs : List Record) (task : ℕ) (found : List ℕ)
    → ((parent number : ℕ) → IsChild rs parent number task → ⊥) → found ≡ [] → ArePredecessors rs task found
no_predecessors rs task found none empty = record {
  all = λ other is. absurd (none is.parent is.number is.is_child);
  only =
      λ other has.
      absurd
      (let place = contains_get found other has in
      none-some other (sym (ap (λ l. slice_get l place.0) empty) ∙ place.1));
  rising =
      λ a b before behind up lower greater less first.
      absurd (none-some before (sym (ap (λ l. slice_get l a) empty) ∙ first));
}

pub child_parent : (rs : List Record) (parent number task : ℕ) → IsChild rs parent number task
    → IsParent rs parent task
child_parent rs parent number task child =
    let place = child_place rs parent (length rs) number task child in (place.0, place.2)

-- ---- by the index of the task

-- the index of the parent of a child
pub child_up : (run : RunView) (index parent number task : ℕ) → IsRun run
    → slice_get run.family.tasks index ≡ Some task → IsChild run.records parent number task
    → (up : ℕ) × (parent_index run.family index ≡ Some up) × (slice_get run.family.tasks up ≡ Some parent)
child_up run index parent number task is here child =
    let by = child_parent run.records parent number task child in
    let up =
    contains_get run.family.tasks parent
    (parent_noted run.records run.family.tasks by.0 parent task is.family.noted is.family.rooted
    by.1) in
    (up.0, parent_at_is run.records run.family index task up.0 is.family here (parent, up.1, by), up.1)

-- a task has no predecessors where it has no index, or its parent has none
pub unmade_predecessors : (run : RunView) (task : ℕ) (found : List ℕ) → IsRun run
    → ((index : ℕ) → slice_get run.family.tasks index ≡ Some task → ⊥) → found ≡ []
    → ArePredecessors run.records task found
unmade_predecessors run task found is none =
    no_predecessors run.records task found
    (λ parent number child.
    let at = child_index run.records run.family parent number task is.family child in none at.0 at.1)

pub root_predecessors : (run : RunView) (index task : ℕ) (found : List ℕ) → IsRun run
    → slice_get run.family.tasks index ≡ Some task → parent_index run.family index ≡ None → found ≡ []
    → ArePredecessors run.records task found
root_predecessors run index task found is here none =
    no_predecessors run.records task found
    (λ parent number child.
    let up = child_up run index parent number task is here child in none-some up.0 (sym none ∙ up.1))

-- the children of the task at the index of its parent are its siblings
pub siblings_at : (run : RunView) (index up parent number task : ℕ) (siblings : List ℕ) → IsRun run
    → slice_get run.family.tasks index ≡ Some task → parent_index run.family index ≡ Some up
    → IsChild run.records parent number task
    → ((own : ℕ) → slice_get run.family.tasks up ≡ Some own → siblings ≡ children run.records own)
    → siblings ≡ children run.records parent
siblings_at run index up parent number task siblings is here stands child are =
    let by = child_up run index parent number task is here child in
    let same : by.0 ≡ up = same_Some by.0 up (sym by.1 ∙ stands) in
    are parent (ap (slice_get run.family.tasks) (sym same) ∙ by.2)
