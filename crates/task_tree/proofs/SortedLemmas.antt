-- Two lists of the same numbers that are ranked alike are equal; pairs in order.
use Rattle.std.proofs.Common.{◌≡◌, ◌≢◌, ◌∙◌, ℕ, zero, suc, ◌<◌, List, [], ◌∷◌, Some, false, refl, sym, ap}
use Rattle.std.proofs.Common.{subst, arith, length, get_or, inl, inr, ◌⊎◌, map, eqb}
use Rattle.std.proofs.lemmas.Bool.{cases_order, ne_eqb, lt-ltb, le-ltb, eq-eqb, true≢false}
use Rattle.std.proofs.lemmas.Option.{none-some, same_Some, slice_get-get_or, slice_get-map, slice_get_within}
use Rattle.std.proofs.lemmas.Option.{get_or_from_slice_get}
use Rattle.std.proofs.lemmas.List.{ext_get_or}
use Rattle.std.proofs.lemmas.List.FromFn.{length-range_with_len, get_or-range_with_len}
use Rattle.std.proofs.lemmas.List.Sorted.{Contains-permutation, IsPermutation-sym, sorted_far}
use Rattle.std.proofs.lemmas.List.MinMax.{ranks_by}
use Rattle.std.proofs.lemmas.Map.Keys.{IsDistinct-from_apart, IsDistinct-IsPermutation, apart_from_distinct}
use Rattle.std.proofs.lemmas.Cmp.{on_total, then_total, nat_cmp_total}
use Rattle.std.specs.Prelude.{slice_get, option_map}
use Rattle.std.specs.Cmp.{IsTotalOrder}
use Rattle.std.specs.Ordering.{nat_cmp, is_lt, ordering_then}
use Rattle.std.specs.declared.cmp.Ordering.TheVariants.{Less, Equal}
use Rattle.std.specs.List.{range_with_len, IsDistinct}
use Rattle.std.specs.List.Sorted.{IsPermutation, IsSorted}
use Rattle.ompt_events.proofs.ListLemmas.{get_contains, contains_get}
use Rattle.task_tree.specs.GapSearch.{pair_cmp}
use Rattle.task_tree.proofs.RankedLemmas.{Every, Ranked}
use Rattle.task_tree.proofs.RisingListLemmas.{IsIn}

-- ---- by index

every_from : {X : Type 0} (P : X → Type 0) (xs : List X) → ((k : ℕ) (x : X) → slice_get xs k ≡ Some x → P x)
    → Every P xs
every_from P [] all = tt
every_from P (x ∷ xs) all = (all 0 x refl, every_from P xs (λ k y is. all (suc k) y is))

pub ranked_from : {X : Type 0} (R : X → X → Type 0) (xs : List X)
    → ((i k : ℕ) (x y : X) → i < k → slice_get xs i ≡ Some x → slice_get xs k ≡ Some y → R x y) → Ranked R xs
ranked_from R [] all = tt
ranked_from R (x ∷ xs) all = (
  every_from (R x) xs (λ k y is. all 0 (suc k) x y (omega arith) refl is),
  ranked_from R xs (λ i k a b less one other. all (suc i) (suc k) a b (omega arith) one other),
)

in_get : (xs : List ℕ) (k z : ℕ) → slice_get xs k ≡ Some z → IsIn z xs
in_get [] k z is = absurd (none-some z is)
in_get (x ∷ xs) zero z is = inl (sym (same_Some x z is))
in_get (x ∷ xs) (suc k) z is = inr (in_get xs k z is)

get_in : (xs : List ℕ) (z : ℕ) → IsIn z xs → (k : ℕ) × (slice_get xs k ≡ Some z)
get_in [] z is = absurd is
get_in (x ∷ xs) z (inl same) = (0, ap Some (sym same))
get_in (x ∷ xs) z (inr later) = let rest = get_in xs z later in (suc rest.0, rest.1)

every_in : (P : ℕ → Type 0) (xs : List ℕ) → Every P xs → (z : ℕ) → IsIn z xs → P z
every_in P [] each z is = absurd is
every_in P (x ∷ xs) each z (inl same) = subst P (sym same) each.0
every_in P (x ∷ xs) each z (inr later) = every_in P xs each.1 z later

permuted_in : (xs ys : List ℕ) → IsPermutation xs ys → (z : ℕ) → IsIn z xs → IsIn z ys
permuted_in xs ys moved z is =
    let here = get_in xs z is in
    let there = contains_get ys z (Contains-permutation xs ys z moved (get_contains xs z here.0 here.1)) in
    in_get ys there.0 z there.1

-- what a function gives of the first n numbers
pub map_range : (f : ℕ → ℕ) (n i : ℕ) → i < n → slice_get (map f (range_with_len 0 n)) i ≡ Some (f i)
map_range f n i below =
    let stands : slice_get (range_with_len 0 n) i ≡ Some (get_or (range_with_len 0 n) i i) =
    slice_get-get_or (range_with_len 0 n) i i (rw (length-range_with_len 0 n) below) in
    let same : get_or (range_with_len 0 n) i i ≡ i = get_or-range_with_len 0 n i i below ∙ omega arith in
    slice_get-map f (range_with_len 0 n) i ∙ ap (option_map f) (stands ∙ ap Some same)

pub same_by_index : (xs ys : List ℕ) → length xs ≡ length ys
    → ((i : ℕ) → i < length xs → slice_get xs i ≡ slice_get ys i) → xs ≡ ys
same_by_index xs ys long same = ext_get_or 0 xs ys long (λ i below.
    same_Some (get_or xs i 0) (get_or ys i 0)
    (sym (slice_get-get_or xs i 0 below) ∙ same i below
    ∙ slice_get-get_or ys i 0 (omega (arith, below, long))))

-- ---- two ranked lists

same_head : (R : ℕ → ℕ → Type 0) → ((x y : ℕ) → R x y → R y x → ⊥) → (x y : ℕ) (xs ys : List ℕ)
    → Every (R x) xs → Every (R y) ys → (x ≡ y) ⊎ IsIn x ys → (y ≡ x) ⊎ IsIn y xs → x ≡ y
same_head R apart x y xs ys after_x after_y (inl same) back = same
same_head R apart x y xs ys after_x after_y (inr later) (inl same) = sym same
same_head R apart x y xs ys after_x after_y (inr x_later) (inr y_later) =
    absurd (apart x y (every_in (R x) xs after_x y y_later) (every_in (R y) ys after_y x x_later))

in_rest : (R : ℕ → ℕ → Type 0) → ((x y : ℕ) → R x y → R y x → ⊥) → (x y z : ℕ) (ys : List ℕ) → x ≡ y → R x z
    → (z ≡ y) ⊎ IsIn z ys → IsIn z ys
in_rest R apart x y z ys same comes (inl is) =
    let itself : R x x = subst (R x) (is ∙ sym same) comes in absurd (apart x x itself itself)
in_rest R apart x y z ys same comes (inr later) = later

ranked_alike : (R : ℕ → ℕ → Type 0) → ((x y : ℕ) → R x y → R y x → ⊥) → (xs ys : List ℕ) → Ranked R xs
    → Ranked R ys → ((z : ℕ) → IsIn z xs → IsIn z ys) → ((z : ℕ) → IsIn z ys → IsIn z xs) → xs ≡ ys
ranked_alike R apart [] [] ranked_x ranked_y forth back = refl
ranked_alike R apart [] (y ∷ ys) ranked_x ranked_y forth back = absurd (back y (inl refl))
ranked_alike R apart (x ∷ xs) [] ranked_x ranked_y forth back = absurd (forth x (inl refl))
ranked_alike R apart (x ∷ xs) (y ∷ ys) ranked_x ranked_y forth back =
    let same : x ≡ y =
    same_head R apart x y xs ys ranked_x.0 ranked_y.0 (forth x (inl refl)) (back y (inl refl)) in
    let rest : xs ≡ ys =
    ranked_alike R apart xs ys ranked_x.1 ranked_y.1
    (λ z is. in_rest R apart x y z ys same (every_in (R x) xs ranked_x.0 z is) (forth z (inr is)))
    (λ z is.
    in_rest R apart y x z xs (sym same) (every_in (R y) ys ranked_y.0 z is) (back z (inr is))) in
    ap (λ l. x ∷ l) rest ∙ ap (λ h. h ∷ ys) same

pub ranked_equal : (R : ℕ → ℕ → Type 0) → ((x y : ℕ) → R x y → R y x → ⊥) → (xs ys : List ℕ) → Ranked R xs
    → Ranked R ys → IsPermutation xs ys → xs ≡ ys
ranked_equal R apart xs ys ranked_x ranked_y moved =
    ranked_alike R apart xs ys ranked_x ranked_y (permuted_in xs ys moved)
    (permuted_in ys xs (IsPermutation-sym xs ys moved))

-- ---- pairs in order

pair_total : IsTotalOrder pair_cmp
pair_total =
    then_total (on_total (λ (p : ℕ × ℕ). p.0) nat_cmp_total) (on_total (λ (p : ℕ × ℕ). p.1) nat_cmp_total)

less : (a b : ℕ) → a < b → nat_cmp a b ≡ Less
less a b below = rw (lt-ltb a b below) refl

first_less : (p q : ℕ × ℕ) → p.0 < q.0 → pair_cmp p q ≡ Less
first_less p q below = ap (λ o. ordering_then o (nat_cmp p.1 q.1)) (less p.0 q.0 below)

second_less : (p q : ℕ × ℕ) → p.0 ≡ q.0 → p.1 < q.1 → pair_cmp p q ≡ Less
second_less p q same below =
    let tied : nat_cmp p.0 q.0 ≡ Equal = rw (le-ltb p.0 q.0 (omega arith), eq-eqb p.0 q.0 same) refl in
    ap (λ o. ordering_then o (nat_cmp p.1 q.1)) tied ∙ less p.1 q.1 below

-- of two pairs in order that differ in the second number
pub pair_order : (p q : ℕ × ℕ) → is_lt (pair_cmp q p) ≡ false → p.1 ≢ q.1
    → (p.0 < q.0) ⊎ ((p.0 ≡ q.0) × (p.1 < q.1))
pair_order p q not_less apart = elim (cases_order p.0 q.0) [
  | inr (inl below) ↦ inl below
  | inr (inr above) ↦ absurd (true≢false (sym (ap is_lt (first_less q p above)) ∙ not_less))
  | inl same ↦ elim (cases_order p.1 q.1) [
    | inl equal ↦ absurd (apart equal)
    | inr (inl below) ↦ inr (same, below)
    | inr (inr above) ↦ absurd (true≢false (sym (ap is_lt (second_less q p (sym same) above)) ∙ not_less))
  ]
]

-- a number stands once in an order of the numbers below n
pub apart_in_order : (n : ℕ) (xs : List ℕ) → IsPermutation (range_with_len 0 n) xs → (a b x y : ℕ) → a < b
    → slice_get xs a ≡ Some x → slice_get xs b ≡ Some y → x ≢ y
apart_in_order n xs moved a b x y less one other same =
    let distinct : IsDistinct eqb xs =
    IsDistinct-IsPermutation eqb flips (range_with_len 0 n) xs moved
    (IsDistinct-from_apart eqb (range_with_len 0 n) each) in
    let differ = apart_from_distinct eqb xs a b 0 distinct less (slice_get_within xs b y other) in
    true≢false
    (sym
    (eq-eqb (get_or xs a 0) (get_or xs b 0)
    (get_or_from_slice_get xs a x 0 one ∙ same ∙ sym (get_or_from_slice_get xs b y 0 other)))
    ∙ differ)
  where
    flips : (x y : ℕ) → eqb x y ≡ eqb y x
    flips x y = elim (cases_order x y) [
      | inl equal ↦ eq-eqb x y equal ∙ sym (eq-eqb y x (sym equal))
      | inr (inl below) ↦
          ne_eqb x y (λ e. absurd (omega arith)) ∙ sym (ne_eqb y x (λ e. absurd (omega arith)))
      | inr (inr above) ↦
          ne_eqb x y (λ e. absurd (omega arith)) ∙ sym (ne_eqb y x (λ e. absurd (omega arith)))
    ]

    each : (i j d : ℕ) → i < j → j < length (range_with_len 0 n)
        → eqb (get_or (range_with_len 0 n) i d) (get_or (range_with_len 0 n) j d) ≡ false
    each i j d less below =
        let inside : j < n = rw (length-range_with_len 0 n) at below in
        let first = get_or-range_with_len 0 n i d (omega (arith, less, inside)) in
        let second = get_or-range_with_len 0 n j d inside in
        ne_eqb (get_or (range_with_len 0 n) i d) (get_or (range_with_len 0 n) j d)
        (λ e. absurd (omega (arith, e, first, second, less)))

-- of two pairs that were sorted
pub sorted_order : (pairs : List (ℕ × ℕ)) → IsSorted pair_cmp pairs → (a b : ℕ) (p q : ℕ × ℕ) → a < b
    → slice_get pairs a ≡ Some p → slice_get pairs b ≡ Some q → is_lt (pair_cmp q p) ≡ false
sorted_order pairs sorted a b p q less one other =
    let far =
    sorted_far (λ x y. is_lt (pair_cmp x y)) (ranks_by pair_total (λ (x : ℕ × ℕ). x)) pairs sorted a b p
    (omega (arith, less)) (slice_get_within pairs b q other) in
    ap (λ x. is_lt (pair_cmp x p)) (sym (get_or_from_slice_get pairs b q p other))
    ∙ ap (λ x. is_lt (pair_cmp (get_or pairs b p) x)) (sym (get_or_from_slice_get pairs a p p one)) ∙ far
