-- Rising lists of numbers: two with the same elements are equal. What is read of a list does not change
-- where its elements are replaced by others of which the same is read.
use Rattle.std.proofs.Common.{◌≡◌, ◌∙◌, ℕ, zero, suc, ◌<◌, ◌≤◌, ◌+◌, List, [], ◌∷◌, Option, Some, None, true}
use Rattle.std.proofs.Common.{false, Bool, cond, refl, sym, ap, subst, arith, inl, inr, ◌⊎◌, map}
use Rattle.std.proofs.lemmas.Bool.{cases_eq, cases_lt}
use Rattle.std.specs.Prelude.{⊤, filter, is_some}
use Rattle.std.specs.List.{range_with_len, filter_map, cons_option}

-- the number is in the list
abbrev pub IsIn : ℕ → List ℕ → Type 0
IsIn z [] = ⊥
IsIn z (x ∷ xs) = (z ≡ x) ⊎ IsIn z xs

-- each number is less than all later ones
abbrev pub IsRising : List ℕ → Type 0
IsRising [] = ⊤
IsRising (x ∷ xs) = ((z : ℕ) → IsIn z xs → x < z) × IsRising xs

-- ---- two rising lists

same_heads : (x y : ℕ) (xs ys : List ℕ) → ((z : ℕ) → IsIn z xs → x < z) → ((z : ℕ) → IsIn z ys → y < z)
    → (x ≡ y) ⊎ IsIn x ys → (y ≡ x) ⊎ IsIn y xs → x ≡ y
same_heads x y xs ys after_x after_y (inl same) back = same
same_heads x y xs ys after_x after_y (inr later) (inl same) = sym same
same_heads x y xs ys after_x after_y (inr x_later) (inr y_later) =
    absurd (omega (arith, after_y x x_later, after_x y y_later))

in_tail : (x y z : ℕ) (ys : List ℕ) → x ≡ y → x < z → (z ≡ y) ⊎ IsIn z ys → IsIn z ys
in_tail x y z ys same below (inl is) = absurd (omega (arith, same, below, is))
in_tail x y z ys same below (inr later) = later

pub rising_equal : (xs ys : List ℕ) → IsRising xs → IsRising ys → ((z : ℕ) → IsIn z xs → IsIn z ys)
    → ((z : ℕ) → IsIn z ys → IsIn z xs) → xs ≡ ys
rising_equal [] [] rising_x rising_y forth back = refl
rising_equal [] (y ∷ ys) rising_x rising_y forth back = absurd (back y (inl refl))
rising_equal (x ∷ xs) [] rising_x rising_y forth back = absurd (forth x (inl refl))
rising_equal (x ∷ xs) (y ∷ ys) rising_x rising_y forth back =
    let same : x ≡ y = same_heads x y xs ys rising_x.0 rising_y.0 (forth x (inl refl)) (back y (inl refl)) in
    let rest : xs ≡ ys =
    rising_equal xs ys rising_x.1 rising_y.1
    (λ z is. in_tail x y z ys same (rising_x.0 z is) (forth z (inr is)))
    (λ z is. in_tail y x z xs (sym same) (rising_y.0 z is) (back z (inr is))) in
    ap (λ l. x ∷ l) rest ∙ ap (λ h. h ∷ ys) same

-- ---- numbers from one on

pub in_range : (a n z : ℕ) → a ≤ z → z < a + n → IsIn z (range_with_len a n)
in_range a zero z low high = absurd (omega (arith, low, high))
in_range a (suc n) z low high = elim (cases_eq z a) [
  | inl same ↦ inl same
  | inr apart ↦ inr (in_range (a + 1) n z (omega (arith, low, apart)) (omega (arith, high)))
]

pub range_in : (a n z : ℕ) → IsIn z (range_with_len a n) → (a ≤ z) × (z < a + n)
range_in a zero z is = absurd is
range_in a (suc n) z (inl same) = (omega (arith, same), omega (arith, same))
range_in a (suc n) z (inr later) =
    let rest = range_in (a + 1) n z later in (omega (arith, rest.0), omega (arith, rest.1))

pub rising_range : (a n : ℕ) → IsRising (range_with_len a n)
rising_range a zero = tt
rising_range a (suc n) =
    (λ z is. let rest = range_in (a + 1) n z is in omega (arith, rest.0), rising_range (a + 1) n)

-- ---- the numbers that pass a test

pub in_filter : (p : ℕ → Bool) (z : ℕ) (xs : List ℕ) → IsIn z xs → p z ≡ true → IsIn z (filter p xs)
in_filter p z [] is passes = absurd is
in_filter p z (x ∷ xs) (inl same) passes = first (p x) (ap p (sym same) ∙ passes)
  where
    first : (b : Bool) → b ≡ true → IsIn z (cond b (x ∷ filter p xs) (filter p xs))
    first true e = inl same
    first false e = cc
in_filter p z (x ∷ xs) (inr later) passes = after (p x) (in_filter p z xs later passes)
  where
    after : (b : Bool) → IsIn z (filter p xs) → IsIn z (cond b (x ∷ filter p xs) (filter p xs))
    after true rest = inr rest
    after false rest = rest

pub filter_in : (p : ℕ → Bool) (z : ℕ) (xs : List ℕ) → IsIn z (filter p xs) → IsIn z xs × (p z ≡ true)
filter_in p z [] is = absurd is
filter_in p z (x ∷ xs) is = split (filter_in p z xs) (p x) refl is
  where
    later : IsIn z xs × (p z ≡ true) → IsIn z (x ∷ xs) × (p z ≡ true)
    later (rest, passes) = (inr rest, passes)

    split : (IsIn z (filter p xs) → IsIn z xs × (p z ≡ true)) → (b : Bool) → p x ≡ b
        → IsIn z (cond b (x ∷ filter p xs) (filter p xs)) → IsIn z (x ∷ xs) × (p z ≡ true)
    split rest true e (inl same) = (inl same, ap p same ∙ e)
    split rest true e (inr is) = later (rest is)
    split rest false e is = later (rest is)

pub rising_filter : (p : ℕ → Bool) (xs : List ℕ) → IsRising xs → IsRising (filter p xs)
rising_filter p [] rising = tt
rising_filter p (x ∷ xs) rising = split (p x) (rising_filter p xs rising.1)
  where
    split : (b : Bool) → IsRising (filter p xs) → IsRising (cond b (x ∷ filter p xs) (filter p xs))
    split true rest = (λ z is. rising.0 z (filter_in p z xs is).0, rest)
    split false rest = rest

-- ---- the numbers that others are mapped to

pub in_map : (f : ℕ → ℕ) (z : ℕ) (xs : List ℕ) → IsIn z xs → IsIn (f z) (map f xs)
in_map f z [] is = absurd is
in_map f z (x ∷ xs) (inl same) = inl (ap f same)
in_map f z (x ∷ xs) (inr later) = inr (in_map f z xs later)

pub map_in : (f : ℕ → ℕ) (y : ℕ) (xs : List ℕ) → IsIn y (map f xs) → (x : ℕ) × IsIn x xs × (y ≡ f x)
map_in f y [] is = absurd is
map_in f y (x ∷ xs) (inl same) = (x, inl refl, same)
map_in f y (x ∷ xs) (inr later) = let rest = map_in f y xs later in (rest.0, inr rest.1, rest.2)

pub rising_map : (f : ℕ → ℕ) (xs : List ℕ) → ((i k : ℕ) → IsIn i xs → IsIn k xs → i < k → f i < f k)
    → IsRising xs → IsRising (map f xs)
rising_map f [] rises rising = tt
rising_map f (x ∷ xs) rises rising = (
  λ z is. let from =
      map_in f z xs is in
      omega (arith, from.2, rises x from.0 (inl refl) (inr from.1) (rising.0 from.0 from.1)),
  rising_map f xs (λ i k i_is k_is. rises i k (inr i_is) (inr k_is)) rising.1,
)

-- ---- what is read of a list whose elements are replaced

pub filter_map-map : {X : Type 0} (f : ℕ → ℕ) (g h : ℕ → Option X) (xs : List ℕ)
    → ((x : ℕ) → IsIn x xs → g (f x) ≡ h x) → filter_map g (map f xs) ≡ filter_map h xs
filter_map-map f g h [] same = refl
filter_map-map f g h (x ∷ xs) same =
    ap (λ o. cons_option o (filter_map g (map f xs))) (same x (inl refl))
    ∙ ap (cons_option (h x)) (filter_map-map f g h xs (λ z is. same z (inr is)))

pub filter-map : (f : ℕ → ℕ) (p q : ℕ → Bool) (xs : List ℕ) → ((x : ℕ) → IsIn x xs → q (f x) ≡ p x)
    → filter q (map f xs) ≡ map f (filter p xs)
filter-map f p q [] same = refl
filter-map f p q (x ∷ xs) same =
    split (q (f x)) (p x) (same x (inl refl)) (filter-map f p q xs (λ z is. same z (inr is)))
  where
    split : (b c : Bool) → b ≡ c → filter q (map f xs) ≡ map f (filter p xs)
        → cond b (f x ∷ filter q (map f xs)) (filter q (map f xs))
        ≡ map f (cond c (x ∷ filter p xs) (filter p xs))
    split true true e rest = ap (λ l. f x ∷ l) rest
    split false false e rest = rest
    split true false e rest = cc
    split false true e rest = cc

-- where nothing is read, nothing is left out
pub filter_map-filter : {X : Type 0} (h : ℕ → Option X) (xs : List ℕ)
    → filter_map h (filter (λ x. is_some (h x)) xs) ≡ filter_map h xs
filter_map-filter h [] = refl
filter_map-filter {X} h (x ∷ xs) = split (h x) refl (filter_map-filter h xs)
  where
    split : (o : Option X) → h x ≡ o → filter_map h (filter (λ x. is_some (h x)) xs) ≡ filter_map h xs
        → filter_map h
        (cond (is_some o) (x ∷ filter (λ x. is_some (h x)) xs) (filter (λ x. is_some (h x)) xs))
        ≡ cons_option o (filter_map h xs)
    split None e rest = rest
    split (Some y) e rest =
        ap (λ o. cons_option o (filter_map h (filter (λ x. is_some (h x)) xs))) e ∙ ap (λ l. y ∷ l) rest

-- ---- the numbers below a bound that pass a test, in another order

-- the numbers that pass the test are below n exactly where what they are mapped to is below m
pub record IsCut (p : ℕ → Bool) (to : ℕ → ℕ) (n m : ℕ) : Type 0 where
  pub forth : (k : ℕ) → p k ≡ true → k < n → to k < m
  pub back : (k : ℕ) → p k ≡ true → to k < m → k < n

-- q passes exactly what numbers that pass p are mapped to
pub record IsSameTest (p q : ℕ → Bool) (to back : ℕ → ℕ) : Type 0 where
  pub kept : (k : ℕ) → p k ≡ true → q (to k) ≡ true
  pub given : (j : ℕ) → q j ≡ true → p (back j) ≡ true
  pub to_back : (j : ℕ) → q j ≡ true → to (back j) ≡ j
  pub rises : (i k : ℕ) → p i ≡ true → p k ≡ true → i < k → to i < to k

-- below a number that passes, and where it is mapped to
pub cut_at : {p q : ℕ → Bool} {to back : ℕ → ℕ} → IsSameTest p q to back → (i : ℕ) → p i ≡ true
    → IsCut p to i (to i)
cut_at {p} {to = to} same i passes = record {
  forth = λ k is below. same.rises k i is passes below;
  back = λ k is below. elim (cases_lt k i) [
    | inl less ↦ less
    | inr more ↦ elim (cases_eq k i) [
      | inl equal ↦ absurd (omega (arith, ap to equal, below))
      | inr apart ↦ absurd (omega (arith, same.rises i k passes is (omega (arith, more, apart)), below))
    ]
  ];
}

pub cut_places : {p q : ℕ → Bool} {to back : ℕ → ℕ} → IsSameTest p q to back → (n m : ℕ) → IsCut p to n m
    → filter q (range_with_len 0 m) ≡ map to (filter p (range_with_len 0 n))
cut_places {p} {q} {to} {back} same n m cut =
    rising_equal (filter q (range_with_len 0 m)) (map to (filter p (range_with_len 0 n)))
    (rising_filter q (range_with_len 0 m) (rising_range 0 m))
    (rising_map to (filter p (range_with_len 0 n))
    (λ i k i_is k_is.
    same.rises i k (filter_in p i (range_with_len 0 n) i_is).1
    (filter_in p k (range_with_len 0 n) k_is).1)
    (rising_filter p (range_with_len 0 n) (rising_range 0 n)))
    forth
    other
  where
    forth : (j : ℕ) → IsIn j (filter q (range_with_len 0 m)) → IsIn j (map to (filter p (range_with_len 0 n)))
    forth j is =
        let here = filter_in q j (range_with_len 0 m) is in
        let low = range_in 0 m j here.0 in
        let passes = same.given j here.1 in
        let below : back j < n = cut.back (back j) passes (omega (arith, low.1, same.to_back j here.1)) in
        let P : ℕ → Type 0 = λ z. IsIn z (map to (filter p (range_with_len 0 n))) in
        subst P (same.to_back j here.1)
        (in_map to (back j) (filter p (range_with_len 0 n))
        (in_filter p (back j) (range_with_len 0 n)
        (in_range 0 n (back j) (omega arith) (omega (arith, below))) passes))

    other : (j : ℕ) → IsIn j (map to (filter p (range_with_len 0 n))) → IsIn j (filter q (range_with_len 0 m))
    other j is =
        let from = map_in to j (filter p (range_with_len 0 n)) is in
        let here = filter_in p from.0 (range_with_len 0 n) from.1 in
        let low = range_in 0 n from.0 here.0 in
        let below : to from.0 < m = cut.forth from.0 here.1 (omega (arith, low.1)) in
        let P : ℕ → Type 0 = λ z. IsIn z (filter q (range_with_len 0 m)) in
        subst P (sym from.2)
        (in_filter q (to from.0) (range_with_len 0 m)
        (in_range 0 m (to from.0) (omega arith) (omega (arith, below))) (same.kept from.0 here.1))
