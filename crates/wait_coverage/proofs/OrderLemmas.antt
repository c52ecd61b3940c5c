-- Tasks in an order in which each stands behind its parent.
use Rattle.std.proofs.Common.{◌≡◌, ◌∙◌, ℕ, zero, suc, [], ◌∷◌, ◌++◌, ◌<◌, ◌≤◌, ◌+◌, List, length, get_or}
use Rattle.std.proofs.Common.{Some, refl, sym, ap, subst, arith, inl, inr}
use Rattle.std.proofs.lemmas.Bool.{cases_lt, cases_eq}
use Rattle.std.proofs.lemmas.Option.{none-some, same_Some, slice_get_within, slice_get-get_or}
use Rattle.std.proofs.lemmas.List.Elements.{Contains-push, Contains-push_cases, Contains-append_left}
use Rattle.std.proofs.lemmas.List.FromFn.{length-range_with_len}
use Rattle.std.proofs.lemmas.List.Sorted.{Contains-permutation, IsPermutation-sym}
use Rattle.std.specs.List.{range_with_len}
use Rattle.std.specs.List.Sorted.{IsPermutation, IsNonDecreasingBy}
use Rattle.std.specs.Prelude.{slice_get, map, option_map}
use Rattle.ompt_events.specs.declared.records.Record.{Record}
use Rattle.ompt_events.proofs.ListLemmas.{get_contains, contains_get, range_get}
use Rattle.task_tree.specs.Family.{FamilyView, IsFamilyOf}
use Rattle.task_tree.specs.Lineage.{parent_index, depth_in}
use Rattle.task_tree.proofs.LineageLemmas.{parent_depth}
use Rattle.wait_coverage.specs.Done.{IsParentsFirst, AreRanked}

-- ---- the indices as they are

pub get_range : (n k i : ℕ) → slice_get (range_with_len 0 n) k ≡ Some i → (i ≡ k) × (k < n)
get_range n k i is =
    let inside = slice_get_within (range_with_len 0 n) k i is in
    let less : k < n = rw (length-range_with_len 0 n) at inside in
    (same_Some i k (sym is ∙ range_get n k less), less)

-- where each parent has the lower index, that is an order
pub range_first : (family : FamilyView) (n : ℕ) → n ≡ length family.tasks
    → ((index up : ℕ) → index < length family.tasks → parent_index family index ≡ Some up → up < index)
    → IsParentsFirst family (range_with_len 0 n)
range_first family n all lower = record {
  all = λ index less. (index, range_get n index (omega (arith, less, all)));
  within =
      λ place index is.
      let got = get_range n place index is in
      let low = got.1 in let same = got.0 in omega (arith, low, same, all);
  first = λ a b child up is_child is_up is.
      let there = get_range n a child is_child in
      let above = get_range n b up is_up in
      let same = there.0 in
      let less = there.1 in
      let other = above.0 in
      let low = lower child up (omega (arith, same, less, all)) is in
      omega (arith, low, same, other);
}

-- ---- the indices by depth

pub ranked_more : (family : FamilyView) (n : ℕ) (ranked : List (ℕ × ℕ)) → AreRanked family n ranked
    → AreRanked family (n + 1) (ranked ++ (depth_in family n, n) ∷ [])
ranked_more family n ranked are = record {
  all = λ index less. elim (cases_eq index n) [
    | inl same ↦ rw same (Contains-push ranked (depth_in family n, n))
    | inr apart ↦
        Contains-append_left ranked ((depth_in family n, n) ∷ []) (depth_in family index, index)
        (are.all index (omega arith))
  ];
  only = λ entry has. elim (Contains-push_cases ranked (depth_in family n, n) entry has) [
    | inl before ↦ let old = are.only entry before in let less = old.0 in (omega (arith, less), old.1)
    | inr same ↦
        let P : ℕ × ℕ → Type 0 = λ e. (e.1 < n + 1) × (e.0 ≡ depth_in family e.1) in
        subst P same (omega arith, refl)
  ];
}

pub ranked_moved : (family : FamilyView) (n : ℕ) (old new : List (ℕ × ℕ)) → AreRanked family n old
    → IsPermutation old new → AreRanked family n new
ranked_moved family n old new are permutation = record {
  all =
      λ index less.
      Contains-permutation old new (depth_in family index, index) permutation (are.all index less);
  only =
      λ entry has.
      are.only entry (Contains-permutation new old entry (IsPermutation-sym old new permutation) has);
}

-- what stands at a place of a mapped list
get_map : {X Y : Type 0} (f : X → Y) (xs : List X) (i : ℕ) (y : Y) → slice_get (map f xs) i ≡ Some y
    → (x : X) × (slice_get xs i ≡ Some x) × (f x ≡ y)
get_map f [] i y is = absurd (none-some y is)
get_map f (x ∷ xs) zero y is = (x, refl, same_Some (f x) y is)
get_map f (x ∷ xs) (suc i) y is = get_map f xs i y is

pub map_get : {X Y : Type 0} (f : X → Y) (xs : List X) (i : ℕ) (x : X) → slice_get xs i ≡ Some x
    → slice_get (map f xs) i ≡ Some (f x)
map_get f [] i x is = absurd (none-some x is)
map_get f (y ∷ xs) zero x is = ap (λ o. option_map f o) is
map_get f (y ∷ xs) (suc i) x is = map_get f xs i x is

pub ranked_first : (rs : List Record) (family : FamilyView) (ranked : List (ℕ × ℕ)) → IsFamilyOf rs family
    → AreRanked family (length family.tasks) ranked → IsNonDecreasingBy (λ (entry : ℕ × ℕ). entry.0) ranked
    → IsParentsFirst family (map (λ (entry : ℕ × ℕ). entry.1) ranked)
ranked_first rs family ranked family_of are rises = record {
  all =
      λ index less.
      let found = contains_get ranked (depth_in family index, index) (are.all index less) in (
        found.0,
        map_get (λ (entry : ℕ × ℕ). entry.1) ranked found.0 (depth_in family index, index) found.1,
      );
  within = λ place index is. let entry = entry_at place index is in let less = entry.2.0 in less;
  first = λ a b child up is_child is_up is. elim (cases_lt b a) [
    | inl before ↦ before
    | inr behind ↦
        let lower = entry_at a child is_child in
        let upper = entry_at b up is_up in
        let less = lower.2.0 in
        let deeper =
        parent_depth rs family child (get_or family.tasks child 0) up family_of
        (slice_get-get_or family.tasks child 0 less) is in
        let d : ℕ × ℕ = (0, 0) in
        let rising = rises a b d behind (slice_get_within ranked b (upper.0, up) upper.1) in
        let first : get_or ranked a d ≡ (lower.0, child) =
        same_Some (get_or ranked a d) (lower.0, child)
        (sym (slice_get-get_or ranked a d (slice_get_within ranked a (lower.0, child) lower.1))
        ∙ lower.1) in
        let second : get_or ranked b d ≡ (upper.0, up) =
        same_Some (get_or ranked b d) (upper.0, up)
        (sym (slice_get-get_or ranked b d (slice_get_within ranked b (upper.0, up) upper.1))
        ∙ upper.1) in
        let shallow : lower.0 ≤ upper.0 = rw (first, second) at rising in
        let is_lower = lower.2.1 in
        let is_upper = upper.2.1 in
        absurd (omega (arith, deeper, shallow, is_lower, is_upper))
  ];
}
  where
    entry_at : (place index : ℕ) → slice_get (map (λ (entry : ℕ × ℕ). entry.1) ranked) place ≡ Some index
        → (depth : ℕ) × (slice_get ranked place ≡ Some (depth, index))
        × ((index < length family.tasks) × (depth ≡ depth_in family index))
    entry_at place index is =
        let found = get_map (λ (entry : ℕ × ℕ). entry.1) ranked place index is in
        let only = are.only found.0 (get_contains ranked found.0 place found.1) in
        let pair : found.0 ≡ (found.0.0, index) = ap (λ i. (found.0.0, i)) found.2 in (
          found.0.0,
          found.1 ∙ ap Some pair,
          (
            let less = only.0 in
                let same = found.2 in omega (arith, less, same),
            only.1 ∙ ap (depth_in family) found.2,
          ),
        )
