-- Lists by index, and how they grow.
use Rattle.std.proofs.Common.{◌≡◌, ◌∙◌, ℕ, List, [], ◌∷◌, ◌++◌, length, get_or, Some, sym, ap, arith, inl}
use Rattle.std.proofs.Common.{inr, ◌⊎◌, subst, suc, Bool, false, cond, refl, true, eqb, ◌<◌, ◌+◌, ◌≤◌, zero}
use Rattle.std.proofs.lemmas.Bool.{cases_lt, false≢true}
use Rattle.std.proofs.lemmas.Option.{same_Some, slice_get_within, slice_get-get_or, get_or_from_slice_get}
use Rattle.std.proofs.lemmas.List.{get_or_append_left, get_or_push, length_push}
use Rattle.std.specs.Prelude.{slice_get, Contains, All, filter, ◌↔◌, take, ◌||◌}
use Rattle.std.specs.List.{AllByRecursion, list_any, range_with_len}
use Rattle.std.proofs.lemmas.List.FromFn.{length-range_with_len, get_or-range_with_len}

pub get_pushed : {X : Type 0} (xs : List X) (y x : X) (i : ℕ) → slice_get xs i ≡ Some x
    → slice_get (xs ++ y ∷ []) i ≡ Some x
get_pushed xs y x i is =
    let within = slice_get_within xs i x is in
    let longer = length_push xs y in
    slice_get-get_or (xs ++ y ∷ []) i x (omega arith) ∙ ap Some (get_or_append_left xs (y ∷ []) x i within)
    ∙ sym (slice_get-get_or xs i x within) ∙ is

pub get_last : {X : Type 0} (xs : List X) (y : X) (i : ℕ) → i ≡ length xs
    → slice_get (xs ++ y ∷ []) i ≡ Some y
get_last xs y i is =
    let longer = length_push xs y in
    slice_get-get_or (xs ++ y ∷ []) i y (omega arith) ∙ ap Some (get_or_push xs y y i (sym is))

-- what stands in the longer list stood there, or is the last
pub pushed_cases : {X : Type 0} (xs : List X) (y x : X) (i : ℕ) → slice_get (xs ++ y ∷ []) i ≡ Some x
    → (slice_get xs i ≡ Some x) ⊎ ((i ≡ length xs) × (y ≡ x))
pushed_cases xs y x i is = elim (cases_lt i (length xs)) [
  | inl old ↦
      inl
      (slice_get-get_or xs i x old ∙ ap Some (sym (get_or_append_left xs (y ∷ []) x i old))
      ∙ sym (slice_get-get_or (xs ++ y ∷ []) i x (slice_get_within (xs ++ y ∷ []) i x is)) ∙ is)
  | inr new ↦
      let within = slice_get_within (xs ++ y ∷ []) i x is in
      let longer = length_push xs y in
      let last : i ≡ length xs = omega arith in
      inr (last, same_Some y x (sym (get_last xs y i last) ∙ is))
]

-- what stands at an index is in the list, and the other way round
pub get_contains : {X : Type 0} (xs : List X) (x : X) (i : ℕ) → slice_get xs i ≡ Some x → Contains xs x
get_contains xs x i is =
    let within = slice_get_within xs i x is in
    (i, within, same_Some (get_or xs i x) x (sym (slice_get-get_or xs i x within) ∙ is))

pub contains_get : {X : Type 0} (xs : List X) (x : X) → Contains xs x → (i : ℕ) × (slice_get xs i ≡ Some x)
contains_get xs x (i, within, is) = (i, slice_get-get_or xs i x within ∙ ap Some is)

pub all_get : {X : Type 0} (P : X → Type 0) (xs : List X) (i : ℕ) (x : X) → All P xs
    → slice_get xs i ≡ Some x → P x
all_get P xs i x all is = subst P (get_or_from_slice_get xs i x x is) (all i x (slice_get_within xs i x is))

pub filter_none : {X : Type 0} (p : X → Bool) (xs : List X)
    → ((i : ℕ) (x : X) → slice_get xs i ≡ Some x → p x ≡ false) → filter p xs ≡ []
filter_none p [] none = refl
filter_none p (x ∷ xs) none =
    ap (λ b. cond b (x ∷ filter p xs) (filter p xs)) (none 0 x refl)
    ∙ filter_none p xs (λ i y is. none (suc i) y is)

pub filter_all : {X : Type 0} (p : X → Bool) (xs : List X)
    → ((i : ℕ) (x : X) → slice_get xs i ≡ Some x → p x ≡ true) → filter p xs ≡ xs
filter_all p [] each = refl
filter_all p (x ∷ xs) each =
    ap (λ b. cond b (x ∷ filter p xs) (filter p xs)) (each 0 x refl)
    ∙ ap (λ l. x ∷ l) (filter_all p xs (λ i y is. each (suc i) y is))

pub none_equal : (y : ℕ) (xs : List ℕ) → list_any (eqb y) xs ≡ false
    → AllByRecursion (λ z. eqb y z ≡ false) xs
none_equal y [] none = tt
none_equal y (x ∷ xs) none = split (none_equal y xs) (eqb y x) refl none
  where
    split : (list_any (eqb y) xs ≡ false → AllByRecursion (λ z. eqb y z ≡ false) xs) → (b : Bool)
        → eqb y x ≡ b → (b || list_any (eqb y) xs) ≡ false → AllByRecursion (λ z. eqb y z ≡ false) (x ∷ xs)
    split later false is e = (is, later e)
    split later true is e = absurd (false≢true (sym e))

-- where the records stand as in the file, each has its place for its number
pub range_get : (n i : ℕ) → i < n → slice_get (range_with_len 0 n) i ≡ Some i
range_get n i below =
    let is : 0 + i ≡ i = omega arith in
    slice_get-get_or (range_with_len 0 n) i 0 (rw (length-range_with_len 0 n) below)
    ∙ ap Some (get_or-range_with_len 0 n i 0 below ∙ is)

pub contains_first : (x : ℕ) (xs : List ℕ) → Contains (x ∷ xs) x
contains_first x xs = (0, omega arith, refl)

pub iff_flipped : {A B : Type 0} → A ↔ B → B ↔ A
iff_flipped (there, back) = (back, there)

pub take_past : {X : Type 0} (xs : List X) (n : ℕ) → length xs ≤ n → take n xs ≡ xs
take_past [] zero past = refl
take_past [] (suc n) past = refl
take_past (x ∷ xs) zero past = absurd (omega arith)
take_past (x ∷ xs) (suc n) past = ap (λ l. x ∷ l) (take_past xs n (omega arith))

-- what stands within a list
pub get_within : {X : Type 0} (xs : List X) (i : ℕ) → i < length xs → (x : X) × (slice_get xs i ≡ Some x)
get_within [] i below = absurd (omega (arith, below))
get_within (x ∷ xs) zero below = (x, refl)
get_within (x ∷ xs) (suc i) below = get_within xs i (omega (arith, below))

-- the indices below n are the numbers below n
pub contains_range : (n index : ℕ) → index < n → Contains (range_with_len 0 n) index
contains_range n index low =
    let e : 0 + index ≡ index = omega arith in
    (index, rw (length-range_with_len 0 n) low, get_or-range_with_len 0 n index index low ∙ e)
