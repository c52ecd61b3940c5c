-- Facts of each element of a list and of each two; numbers by a key, and then by size.
use Rattle.std.proofs.Common.{◌≡◌, ◌≢◌, ◌∙◌, ℕ, ◌<◌, ◌≤◌, ◌+◌, zero, suc, List, [], ◌∷◌, ◌++◌, ◌⊎◌, Option}
use Rattle.std.proofs.Common.{Some, None, true, false, Bool, cond, not, ◌&&◌, ◌||◌, refl, sym, ap, subst}
use Rattle.std.proofs.Common.{arith, length, inl, inr, eqb, ltb, append-nil}
use Rattle.std.proofs.lemmas.Option.{none-some, same_Some}
use Rattle.std.proofs.lemmas.Bool.{cases_order, cases_eq, lt-ltb, le-ltb, eq-eqb, ne_eqb, eqb-true}
use Rattle.std.proofs.lemmas.List.Sorted.{IsPermutation-refl, IsPermutation-sym, IsPermutation-trans}
use Rattle.std.proofs.lemmas.List.Sorted.{IsPermutation-cons, IsPermutation-middle, IsPermutation-append_left}
use Rattle.std.proofs.lemmas.List.Concat.{flat_map-append}
use Rattle.std.specs.Prelude.{◌==◌, ⊤, slice_get, option_and_then, is_some, filter, flat_map, filter_map}
use Rattle.std.specs.List.{range_with_len, position_or_len, cons_option}
use Rattle.std.specs.List.Sorted.{IsPermutation}
pub use Rattle.ompt_events.proofs.EveryLemmas.{Every, every_append, every_weaker, every_if}
pub use Rattle.ompt_events.proofs.EveryLemmas.{every_filter, every_passes, every_take, every_get, fold_most}
use Rattle.ompt_events.proofs.PlaceLemmas.{range_more}

-- ---- each two elements

abbrev pub Ranked : {X : Type 0} → (X → X → Type 0) → List X → Type 0
Ranked R [] = ⊤
Ranked R (x ∷ xs) = Every (R x) xs × Ranked R xs

pub ranked_append : {X : Type 0} (R : X → X → Type 0) (xs ys : List X) → Ranked R xs → Ranked R ys
    → Every (λ x. Every (R x) ys) xs → Ranked R (xs ++ ys)
ranked_append R [] ys first second across = second
ranked_append R (x ∷ xs) ys first second across =
    (every_append (R x) xs ys first.0 across.0, ranked_append R xs ys first.1 second across.1)

ranked_if : {X : Type 0} (R : X → X → Type 0) (b : Bool) (x : X) (l : List X) → Every (R x) l → Ranked R l
    → Ranked R (cond b (x ∷ l) l)
ranked_if R true x l each ranked = (each, ranked)
ranked_if R false x l each ranked = ranked

pub ranked_filter : {X : Type 0} (R : X → X → Type 0) (p : X → Bool) (xs : List X) → Ranked R xs
    → Ranked R (filter p xs)
ranked_filter R p [] ranked = tt
ranked_filter R p (x ∷ xs) ranked =
    ranked_if R (p x) x (filter p xs) (every_filter (R x) p xs ranked.0) (ranked_filter R p xs ranked.1)

pub ranked_get : {X : Type 0} (R : X → X → Type 0) (xs : List X) (i k : ℕ) (x y : X) → Ranked R xs → i < k
    → slice_get xs i ≡ Some x → slice_get xs k ≡ Some y → R x y
ranked_get R [] i k x y ranked less one other = absurd (none-some x one)
ranked_get R (z ∷ zs) i zero x y ranked less one other = absurd (omega arith)
ranked_get R (z ∷ zs) zero (suc k) x y ranked less one other =
    subst (λ w. R w y) (same_Some z x one) (every_get (R z) zs k y ranked.0 other)
ranked_get R (z ∷ zs) (suc i) (suc k) x y ranked less one other =
    ranked_get R zs i k x y ranked.1 (omega arith) one other

-- numbers in a row rise
row_above : (a b n : ℕ) → a < b → Every (λ k. a < k) (range_with_len b n)
row_above a b zero less = tt
row_above a b (suc n) less = (less, row_above a (b + 1) n (omega arith))

pub row_rises : (a n : ℕ) → Ranked (λ i k. i < k) (range_with_len a n)
row_rises a zero = tt
row_rises a (suc n) = (row_above a (a + 1) n (omega arith), row_rises (a + 1) n)

pub row_below : (a n : ℕ) → Every (λ k. k < a + n) (range_with_len a n)
row_below a zero = tt
row_below a (suc n) = (
  omega arith,
  every_weaker (λ k. k < a + 1 + n) (λ k. k < a + suc n) (λ k less. omega arith)
      (range_with_len (a + 1) n) (row_below (a + 1) n),
)

-- ---- numbers by their keys, and those with the same key in the order in which they stand

module _ (key : ℕ → ℕ) where
  abbrev pub by_key : ℕ → List ℕ → List ℕ
  by_key n xs = flat_map (λ turn. filter (λ i. key i == turn) xs) (range_with_len 0 n)

  by_key_more : (n : ℕ) (xs : List ℕ) → by_key (n + 1) xs ≡ by_key n xs ++ filter (λ i. key i == n) xs
  by_key_more n xs =
      let f : ℕ → List ℕ = λ turn. filter (λ i. key i == turn) xs in
      ap (flat_map f) (range_more n) ∙ flat_map-append f (range_with_len 0 n) (n ∷ [])
      ∙ ap (λ l. flat_map f (range_with_len 0 n) ++ l) (append-nil (f n))

  -- one element more: it goes to one of the two parts, or to none
  join : (b c : Bool) (x : ℕ) (whole one other : List ℕ) → b && c ≡ false → IsPermutation whole (one ++ other)
      → IsPermutation (cond (b || c) (x ∷ whole) whole) (cond b (x ∷ one) one ++ cond c (x ∷ other) other)
  join true true x whole one other both parts = cc
  join true false x whole one other both parts = IsPermutation-cons x whole (one ++ other) parts
  join false true x whole one other both parts =
      IsPermutation-trans (x ∷ whole) (x ∷ (one ++ other)) (one ++ x ∷ other)
      (IsPermutation-cons x whole (one ++ other) parts)
      (IsPermutation-sym (one ++ x ∷ other) (x ∷ (one ++ other)) (IsPermutation-middle one x other))
  join false false x whole one other both parts = parts

  next_key : (k n : ℕ) → (ltb k (n + 1) ≡ (ltb k n || eqb k n)) × ((ltb k n && eqb k n) ≡ false)
  next_key k n = elim (cases_order k n) [
    | inl same ↦ rw (lt-ltb k (n + 1) (omega arith), le-ltb k n (omega arith), eq-eqb k n same) (refl, refl)
    | inr (inl less) ↦
        rw (lt-ltb k (n + 1) (omega arith), lt-ltb k n less, ne_eqb k n (λ e. absurd (omega arith)))
        (refl, refl)
    | inr (inr more) ↦
        rw (le-ltb k (n + 1) (omega arith), le-ltb k n (omega arith), ne_eqb k n (λ e. absurd (omega arith)))
        (refl, refl)
  ]

  one_more : (n : ℕ) (xs : List ℕ)
      → IsPermutation (filter (λ i. ltb (key i) (n + 1)) xs)
      (filter (λ i. ltb (key i) n) xs ++ filter (λ i. eqb (key i) n) xs)
  one_more n [] = IsPermutation-refl []
  one_more n (x ∷ xs) =
      let whole = filter (λ i. ltb (key i) (n + 1)) xs in
      let one = filter (λ i. ltb (key i) n) xs in
      let other = filter (λ i. eqb (key i) n) xs in
      subst
      (λ b.
      IsPermutation (cond b (x ∷ whole) whole)
      (cond (ltb (key x) n) (x ∷ one) one ++ cond (eqb (key x) n) (x ∷ other) other))
      (sym (next_key (key x) n).0)
      (join (ltb (key x) n) (eqb (key x) n) x whole one other (next_key (key x) n).1 (one_more n xs))

  none_below : (xs : List ℕ) → filter (λ i. ltb (key i) 0) xs ≡ []
  none_below [] = refl
  none_below (x ∷ xs) = rw (le-ltb (key x) 0 (omega arith)) (none_below xs)

  part_permuted : (n : ℕ) (xs : List ℕ) → IsPermutation (filter (λ i. ltb (key i) n) xs) (by_key n xs)
  part_permuted zero xs = subst (λ l. IsPermutation l []) (sym (none_below xs)) (IsPermutation-refl [])
  part_permuted (suc n) xs =
      let next : suc n ≡ n + 1 = omega arith in
      let P : ℕ → Type 0 = λ m. IsPermutation (filter (λ i. ltb (key i) m) xs) (by_key m xs) in
      let same = filter (λ i. eqb (key i) n) xs in
      let below = filter (λ i. ltb (key i) n) xs in
      subst P (sym next) (subst (IsPermutation (filter (λ i. ltb (key i) (n + 1)) xs))
      (sym (by_key_more n xs))
      (IsPermutation-trans (filter (λ i. ltb (key i) (n + 1)) xs) (below ++ same) (by_key n xs ++ same)
      (one_more n xs) (IsPermutation-append_left same below (by_key n xs) (part_permuted n xs))))

  all_below : (n : ℕ) (xs : List ℕ) → Every (λ i. key i < n) xs → filter (λ i. ltb (key i) n) xs ≡ xs
  all_below n [] each = refl
  all_below n (x ∷ xs) each = rw (lt-ltb (key x) n each.0) (ap (λ l. x ∷ l) (all_below n xs each.1))

  pub by_key_permuted : (n : ℕ) (xs : List ℕ) → Every (λ i. key i < n) xs → IsPermutation xs (by_key n xs)
  by_key_permuted n xs each =
      subst (λ l. IsPermutation l (by_key n xs)) (all_below n xs each) (part_permuted n xs)

  -- each key is below n
  keyed_below : (n : ℕ) (xs : List ℕ) → Every (λ i. key i < n) (by_key n xs)
  keyed_below zero xs = tt
  keyed_below (suc n) xs =
      let next : suc n ≡ n + 1 = omega arith in
      let P : ℕ → Type 0 = λ m. Every (λ i. key i < m) (by_key m xs) in
      subst P (sym next) (subst (Every (λ i. key i < n + 1)) (sym (by_key_more n xs))
      (every_append (λ i. key i < n + 1) (by_key n xs) (filter (λ i. key i == n) xs)
      (every_weaker (λ i. key i < n) (λ i. key i < n + 1) (λ i less. omega arith) (by_key n xs)
      (keyed_below n xs))
      (every_weaker (λ i. (key i == n) ≡ true) (λ i. key i < n + 1)
      (λ i same. let is = eqb-true (key i) n same in omega arith) (filter (λ i. key i == n) xs)
      (every_passes (λ i. key i == n) xs))))

  -- by key, and then by size
  abbrev pub Comes : ℕ → ℕ → Type 0
  Comes i k = (key i < key k) ⊎ ((key i ≡ key k) × (i < k))

  same_key : (n : ℕ) (xs : List ℕ) → Ranked (λ i k. i < k) xs → Every (λ i. key i ≡ n) xs → Ranked Comes xs
  same_key n [] ranked each = tt
  same_key n (x ∷ xs) ranked each = (first xs ranked.0 each.1, same_key n xs ranked.1 each.1)
    where
      first : (ys : List ℕ) → Every (λ k. x < k) ys → Every (λ i. key i ≡ n) ys → Every (Comes x) ys
      first [] above all = tt
      first (y ∷ ys) above all = (inr (each.0 ∙ sym all.0, above.0), first ys above.1 all.1)

  pub by_key_ranked : (n : ℕ) (xs : List ℕ) → Ranked (λ i k. i < k) xs → Ranked Comes (by_key n xs)
  by_key_ranked zero xs ranked = tt
  by_key_ranked (suc n) xs ranked =
      let next : suc n ≡ n + 1 = omega arith in
      let P : ℕ → Type 0 = λ m. Ranked Comes (by_key m xs) in
      let same = filter (λ i. key i == n) xs in
      let of_key : Every (λ i. key i ≡ n) same =
      every_weaker (λ i. (key i == n) ≡ true) (λ i. key i ≡ n) (λ i is. eqb-true (key i) n is) same
      (every_passes (λ i. key i == n) xs) in
      subst P (sym next) (subst (Ranked Comes) (sym (by_key_more n xs))
      (ranked_append Comes (by_key n xs) same (by_key_ranked n xs ranked)
      (same_key n same (ranked_filter (λ i k. i < k) (λ i. key i == n) xs ranked) of_key)
      (every_weaker (λ i. key i < n) (λ i. Every (Comes i) same)
      (λ i less. every_weaker (λ k. key k ≡ n) (Comes i) (λ k is. inl (omega arith)) same of_key)
      (by_key n xs) (keyed_below n xs))))

-- ---- where a number stands

pub stands_at : (xs : List ℕ) (i : ℕ) → position_or_len (λ k. k == i) xs < length xs
    → slice_get xs (position_or_len (λ k. k == i) xs) ≡ Some i
stands_at [] i less = absurd (omega arith)
stands_at (x ∷ xs) i less = elim (cases_eq x i) [
  | inl same ↦ rw (eq-eqb x i same) (ap Some same)
  | inr apart ↦
      let later : eqb x i ≡ false = ne_eqb x i apart in
      let P : Bool → Type 0 =
      λ b.
      cond (not b) (1 + position_or_len (λ k. k == i) xs) 0 < suc (length xs)
      → slice_get (x ∷ xs) (cond (not b) (1 + position_or_len (λ k. k == i) xs) 0) ≡ Some i in
      subst P (sym later)
      (λ below.
      let next : 1 + position_or_len (λ k. k == i) xs ≡ suc (position_or_len (λ k. k == i) xs) =
      omega arith in
      ap (slice_get (x ∷ xs)) next ∙ stands_at xs i (omega arith))
      less
]

pub stands_below : (xs : List ℕ) (i n : ℕ) → slice_get xs n ≡ Some i → position_or_len (λ k. k == i) xs ≤ n
stands_below [] i n is = absurd (none-some i is)
stands_below (x ∷ xs) i zero is = rw (eq-eqb x i (same_Some x i is)) (omega arith)
stands_below (x ∷ xs) i (suc n) is = elim (cases_eq x i) [
  | inl same ↦ rw (eq-eqb x i same) (omega arith)
  | inr apart ↦ rw (ne_eqb x i apart) (let rest = stands_below xs i n is in omega arith)
]

pub not_standing : (xs : List ℕ) (i : ℕ) → ((n : ℕ) → slice_get xs n ≢ Some i)
    → position_or_len (λ k. k == i) xs ≡ length xs
not_standing [] i never = refl
not_standing (x ∷ xs) i never =
    let apart : x ≢ i = λ e. never 0 (ap Some e) in
    let rest = not_standing xs i (λ n. never (suc n)) in
    rw (ne_eqb x i apart) (omega arith)

-- ---- what is given of each element

pub map_get : {X Y : Type 0} (f : X → Option Y) (xs : List X) (n : ℕ) → Every (λ x. is_some (f x) ≡ true) xs
    → slice_get (filter_map f xs) n ≡ option_and_then f (slice_get xs n)
map_get f [] n each = refl
map_get {X} {Y} f (x ∷ xs) n each = by (f x) refl n each.0 (λ m. map_get f xs m each.1)
  where
    by : (o : Option Y) → f x ≡ o → (m : ℕ) → is_some o ≡ true
        → ((k : ℕ) → slice_get (filter_map f xs) k ≡ option_and_then f (slice_get xs k))
        → slice_get (cons_option o (filter_map f xs)) m ≡ option_and_then f (slice_get (x ∷ xs) m)
    by None e m some rest = cc
    by (Some y) e zero some rest = sym e
    by (Some y) e (suc m) some rest = rest m

pub map_length : {X Y : Type 0} (f : X → Option Y) (xs : List X) → Every (λ x. is_some (f x) ≡ true) xs
    → length (filter_map f xs) ≡ length xs
map_length f [] each = refl
map_length {X} {Y} f (x ∷ xs) each = by (f x) each.0 (map_length f xs each.1)
  where
    by : (o : Option Y) → is_some o ≡ true → length (filter_map f xs) ≡ length xs
        → length (cons_option o (filter_map f xs)) ≡ suc (length xs)
    by None some rest = cc
    by (Some y) some rest = ap suc rest
