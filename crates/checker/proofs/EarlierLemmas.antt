-- Which of two places stands before the other in a list that is put together from others.
use Rattle.std.proofs.Common.{◌≡◌, ◌≢◌, ◌∙◌, ℕ, zero, suc, ◌<◌, ◌+◌, ◌⊎◌, Bool, true, false, List, [], ◌∷◌}
use Rattle.std.proofs.Common.{◌++◌, length, eqb, refl, sym, ap, subst, arith, inl, inr}
use Rattle.std.specs.Prelude.{Contains, IsPermutation, AllPairs, filter, slice_index}
use Rattle.std.proofs.lemmas.Bool.{false≢true, cases_eq, eq-eqb, ne_eqb}
use Rattle.std.proofs.lemmas.Bool.Decides.{Decides-eqb}
use Rattle.std.proofs.lemmas.List.{get_or_default}
use Rattle.std.proofs.lemmas.List.Elements.{Contains-append_left, Contains-append_right}
use Rattle.std.proofs.lemmas.List.Elements.{Contains-append_cases}
use Rattle.std.proofs.lemmas.List.FromFn.{length-range_with_len, get_or-range_with_len}
use Rattle.std.proofs.lemmas.Map.Keys.{IsDistinct-IsPermutation}
use Rattle.std.proofs.lemmas.Map.Made.{AllPairs-from_IsDistinct, IsDistinct-from_AllPairs}
use Rattle.ompt_events.specs.declared.records.Record.{Record}
use Rattle.ompt_events.specs.Places.{places}
use Rattle.ompt_events.specs.Linearization.{IsEarlier}
use Rattle.ompt_events.proofs.PlaceLemmas.{Contains-filter}
use Rattle.ompt_events.proofs.ListLemmas.{contains_first}

-- ---- a list with a first place

pub earlier_first : (a : ℕ) (xs : List ℕ) (b : ℕ) → Contains xs b → IsEarlier (a ∷ xs) a b
earlier_first a xs b (k, below, is) = record {
  first = 0;
  second = suc k;
  apart = omega arith;
  within = omega (arith, below);
  a_stands = refl;
  b_stands = get_or_default xs k 0 b below ∙ is;
}

pub earlier_behind : (x : ℕ) (xs : List ℕ) (a b : ℕ) → IsEarlier xs a b → IsEarlier (x ∷ xs) a b
earlier_behind x xs a b e = record {
  first = suc e.first;
  second = suc e.second;
  apart = let h = e.apart in omega (arith, h);
  within = let h = e.within in omega (arith, h);
  a_stands = e.a_stands;
  b_stands = e.b_stands;
}

pub earlier_cases : (x : ℕ) (xs : List ℕ) (a b : ℕ) → IsEarlier (x ∷ xs) a b
    → ((x ≡ a) × Contains xs b) ⊎ IsEarlier xs a b
earlier_cases x xs a b e = of e.first e.second e.apart e.within e.a_stands e.b_stands
  where
    of : (first second : ℕ) → first < second → second < suc (length xs) → slice_index (x ∷ xs) first ≡ a
        → slice_index (x ∷ xs) second ≡ b → ((x ≡ a) × Contains xs b) ⊎ IsEarlier xs a b
    of first zero apart within a_is b_is = absurd (omega (arith, apart))
    of zero (suc second) apart within a_is b_is =
        let below : second < length xs = omega (arith, within) in
        inl (a_is, (second, below, sym (get_or_default xs second 0 b below) ∙ b_is))
    of (suc first) (suc second) apart within a_is b_is = inr (record {
      first = first;
      second = second;
      apart = omega (arith, apart);
      within = omega (arith, within);
      a_stands = a_is;
      b_stands = b_is;
    })

-- nothing stands in an empty list
earlier_never : (a b : ℕ) → IsEarlier [] a b → ⊥
earlier_never a b e = let within = e.within in absurd (omega (arith, within))

contains_never : {X : Type 0} (a : X) → Contains {X = X} [] a → ⊥
contains_never a (k, below, is) = absurd (omega (arith, below))

contains_behind : (x : ℕ) (xs : List ℕ) (a : ℕ) → Contains xs a → Contains (x ∷ xs) a
contains_behind x xs a (k, below, is) = (suc k, omega (arith, below), is)

-- what stands before another, and the other, are in the list
pub earlier_from : (xs : List ℕ) (a b : ℕ) → IsEarlier xs a b → Contains xs a
earlier_from xs a b e = (
  e.first,
  (let low = e.apart in let within = e.within in omega (arith, low, within)),
  get_or_default xs e.first a 0
      (let low = e.apart in let within = e.within in omega (arith, low, within))
      ∙ e.a_stands,
)

pub earlier_to : (xs : List ℕ) (a b : ℕ) → IsEarlier xs a b → Contains xs b
earlier_to xs a b e = (e.second, e.within, get_or_default xs e.second b 0 e.within ∙ e.b_stands)

-- ---- one list behind another

pub earlier_left : (xs ys : List ℕ) (a b : ℕ) → IsEarlier xs a b → IsEarlier (xs ++ ys) a b
earlier_left [] ys a b e = absurd (earlier_never a b e)
earlier_left (x ∷ xs) ys a b e = elim (earlier_cases x xs a b e) [
  | inl (same, has) ↦
      let P : ℕ → Type 0 = λ n. IsEarlier (x ∷ (xs ++ ys)) n b in
      subst P same (earlier_first x (xs ++ ys) b (Contains-append_left xs ys b has))
  | inr behind ↦ earlier_behind x (xs ++ ys) a b (earlier_left xs ys a b behind)
]

pub earlier_right : (xs ys : List ℕ) (a b : ℕ) → IsEarlier ys a b → IsEarlier (xs ++ ys) a b
earlier_right [] ys a b e = e
earlier_right (x ∷ xs) ys a b e = earlier_behind x (xs ++ ys) a b (earlier_right xs ys a b e)

pub earlier_across : (xs ys : List ℕ) (a b : ℕ) → Contains xs a → Contains ys b → IsEarlier (xs ++ ys) a b
earlier_across [] ys a b has behind = absurd (contains_never a has)
earlier_across (x ∷ xs) ys a b (zero, below, is) behind =
    let P : ℕ → Type 0 = λ n. IsEarlier (x ∷ (xs ++ ys)) n b in
    subst P is (earlier_first x (xs ++ ys) b (Contains-append_right xs ys b behind))
earlier_across (x ∷ xs) ys a b (suc k, below, is) behind =
    earlier_behind x (xs ++ ys) a b (earlier_across xs ys a b (k, omega (arith, below), is) behind)

pub earlier_append_cases : (xs ys : List ℕ) (a b : ℕ) → IsEarlier (xs ++ ys) a b
    → IsEarlier xs a b ⊎ ((Contains xs a × Contains ys b) ⊎ IsEarlier ys a b)
earlier_append_cases [] ys a b e = inr (inr e)
earlier_append_cases (x ∷ xs) ys a b e = elim (earlier_cases x (xs ++ ys) a b e) [
  | inl (same, has) ↦
      let P : ℕ → Type 0 =
      λ n. IsEarlier (x ∷ xs) n b ⊎ ((Contains (x ∷ xs) n × Contains ys b) ⊎ IsEarlier ys n b) in
      subst P same (elim (Contains-append_cases xs ys b has) [
        | inl among ↦ inl (earlier_first x xs b among)
        | inr behind ↦ inr (inl (contains_first x xs, behind))
      ])
  | inr behind ↦ elim (earlier_append_cases xs ys a b behind) [
    | inl among ↦ inl (earlier_behind x xs a b among)
    | inr (inl (left, right)) ↦ inr (inl (contains_behind x xs a left, right))
    | inr (inr last) ↦ inr (inr last)
  ]
]

-- ---- some of a list

pub earlier_filter : (p : ℕ → Bool) (xs : List ℕ) (a b : ℕ) → p a ≡ true → p b ≡ true → IsEarlier xs a b
    → IsEarlier (filter p xs) a b
earlier_filter p [] a b holds too e = absurd (earlier_never a b e)
earlier_filter p (x ∷ xs) a b holds too e = of (λ behind. earlier_filter p xs a b holds too behind) (p x) refl
  where
    of : (IsEarlier xs a b → IsEarlier (filter p xs) a b) → (t : Bool) → p x ≡ t
        → IsEarlier (filter p (x ∷ xs)) a b
    of rest true kept = elim (earlier_cases x xs a b e) [
      | inl (same, has) ↦
          rw kept
          (let P : ℕ → Type 0 = λ n. IsEarlier (n ∷ filter p xs) a b in
          subst P (sym same) (earlier_first a (filter p xs) b (Contains-filter p xs b has too)))
      | inr behind ↦ rw kept (earlier_behind x (filter p xs) a b (rest behind))
    ]
    of rest false left = elim (earlier_cases x xs a b e) [
      | inl (same, has) ↦ absurd (false≢true (sym left ∙ ap p same ∙ holds))
      | inr behind ↦ rw left (rest behind)
    ]

-- ---- each place once

places_apart : (rs : List Record) → AllPairs (λ x y. x ≢ y) (places rs)
places_apart rs i j d low within same =
    let len = length-range_with_len 0 (length rs) in
    let there : 0 + i ≡ 0 + j =
    sym (get_or-range_with_len 0 (length rs) i d (omega (arith, low, within, len))) ∙ same
    ∙ get_or-range_with_len 0 (length rs) j d (omega (arith, within, len)) in
    absurd (omega (arith, there, low))

eqb_flips : (x y : ℕ) → eqb x y ≡ eqb y x
eqb_flips x y = elim (cases_eq x y) [
  | inl same ↦ eq-eqb x y same ∙ sym (eq-eqb y x (sym same))
  | inr apart ↦ ne_eqb x y apart ∙ sym (ne_eqb y x (λ same. apart (sym same)))
]

pub order_apart : (rs : List Record) (order : List ℕ) → IsPermutation (places rs) order
    → AllPairs (λ x y. x ≢ y) order
order_apart rs order permutation =
    AllPairs-from_IsDistinct Decides-eqb order
    (IsDistinct-IsPermutation eqb eqb_flips (places rs) order permutation
    (IsDistinct-from_AllPairs Decides-eqb (places rs) (places_apart rs)))

-- so no place stands before itself
pub earlier_apart : (order : List ℕ) (a : ℕ) → AllPairs (λ x y. x ≢ y) order → IsEarlier order a a → ⊥
earlier_apart order a apart e = apart e.first e.second 0 e.apart e.within (e.a_stands ∙ sym e.b_stands)

-- a list that has a place has parts before and behind it
pub split_at : (xs : List ℕ) (a : ℕ) → Contains xs a
    → (before : List ℕ) × (behind : List ℕ) × (xs ≡ before ++ a ∷ behind)
split_at [] a has = absurd (contains_never a has)
split_at (x ∷ xs) a (zero, below, is) = ([], xs, ap (λ y. y ∷ xs) is)
split_at (x ∷ xs) a (suc k, below, is) =
    let parts = split_at xs a (k, omega (arith, below), is) in
    (x ∷ parts.0, parts.1, ap (λ l. x ∷ l) parts.2)

-- an element that is kept passed the test
pub filter_holds : {X : Type 0} (p : X → Bool) (xs : List X) (a : X) → Contains (filter p xs) a → p a ≡ true
filter_holds p [] a has = absurd (contains_never a has)
filter_holds p (x ∷ xs) a has = of (filter_holds p xs a) (p x) refl
  where
    cases_first : Contains (x ∷ filter p xs) a → (x ≡ a) ⊎ Contains (filter p xs) a
    cases_first (zero, below, is) = inl is
    cases_first (suc k, below, is) = inr (k, omega (arith, below), is)

    of : (Contains (filter p xs) a → p a ≡ true) → (t : Bool) → p x ≡ t → p a ≡ true
    of rest true kept =
        let among : Contains (x ∷ filter p xs) a = rw kept at has in
        elim (cases_first among) [
          | inl same ↦ ap p (sym same) ∙ kept
          | inr behind ↦ rest behind
        ]
    of rest false left = rest (rw left at has)
