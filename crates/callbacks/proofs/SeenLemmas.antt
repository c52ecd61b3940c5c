-- The indices that finishing records name, and that so many different ones below a length are all of them.
use Rattle.std.proofs.Common.{◌≡◌, ◌∙◌, ℕ, zero, suc, ◌<◌, Bool, true, false, cond, eqb, List, [], ◌∷◌}
use Rattle.std.proofs.Common.{length, Some, refl, sym, ap, arith, inl, inr}
use Rattle.std.specs.Prelude.{◌||◌, slice_get, filter, map, is_some}
use Rattle.std.specs.List.{IsDistinct, list_any}
use Rattle.std.proofs.lemmas.Bool.{false≢true, cases_Bool, or_cases, eqb-true, eq-eqb}
use Rattle.std.proofs.lemmas.Option.{none-some, same_Some}
use Rattle.std.proofs.lemmas.List.{length-map}
use Rattle.std.proofs.lemmas.List.Sums.{length-filter}
use Rattle.std.proofs.lemmas.Map.Steps.{length-le_from_distinct_below}
use Rattle.ompt_events.specs.declared.records.Record.{Record}
use Rattle.ompt_events.specs.Records.{finish}
use Rattle.ompt_events.specs.Causes.{entries_in}
use Rattle.ompt_events.proofs.ListLemmas.{none_equal}

-- ---- different numbers

or_first : (x y : Bool) → x ≡ true → (x || y) ≡ true
or_first true y is = refl
or_first false y is = absurd (false≢true is)

or_second : (x y : Bool) → y ≡ true → (x || y) ≡ true
or_second true y is = refl
or_second false y is = is

distinct_none : IsDistinct eqb []
unfolding IsDistinct
distinct_none = tt

distinct_more : (q : ℕ) (xs : List ℕ) → list_any (eqb q) xs ≡ false → IsDistinct eqb xs
    → IsDistinct eqb (q ∷ xs)
unfolding IsDistinct
distinct_more q xs none apart = (none_equal q xs none, apart)

-- n different numbers below n are all of these
pub all_taken : (xs : List ℕ) (n q : ℕ) → IsDistinct eqb xs → ((p : ℕ) → list_any (eqb p) xs ≡ true → p < n)
    → length xs ≡ n → q < n → list_any (eqb q) xs ≡ true
all_taken xs n q apart below many less = elim (cases_Bool (list_any (eqb q) xs)) [
  | inl is ↦ is
  | inr none ↦
      let more = length-le_from_distinct_below (q ∷ xs) n (distinct_more q xs none apart) all_below in
      absurd (omega (arith, more, many))
]
  where
    all_below : (p : ℕ) → list_any (eqb p) (q ∷ xs) ≡ true → p < n
    all_below p is = elim (or_cases (eqb p q) (list_any (eqb p) xs) is) [
      | inl same ↦ omega (arith, less, eqb-true p q same)
      | inr rest ↦ below p rest
    ]

-- ---- the indices of finishing records

abbrev pub finishes : Record → Bool
finishes r = is_some (finish r.body)

abbrev pub seens : List Record → List ℕ
seens rs = map (λ (r : Record). r.seen) (filter finishes rs)

pub seens_length : (rs : List Record) → length (seens rs) ≡ entries_in rs
seens_length rs = length-map (filter finishes rs) (λ (r : Record). r.seen) ∙ length-filter finishes rs

-- some finishing record names the index
pub record IsNamed (rs : List Record) (q : ℕ) : Type 0 where
  pub place : ℕ
  pub by : Record
  pub is : slice_get rs place ≡ Some by
  pub finishing : finishes by ≡ true
  pub names : by.seen ≡ q

named_later : (r : Record) (rs : List Record) (q : ℕ) → IsNamed rs q → IsNamed (r ∷ rs) q
named_later r rs q named = record {
  place = suc named.place;
  by = named.by;
  is = named.is;
  finishing = named.finishing;
  names = named.names;
}

-- the indices of a record and of those after it
abbrev seens_with : Record → List Record → Bool → List ℕ
seens_with r rs b = map (λ (x : Record). x.seen) (cond b (r ∷ filter finishes rs) (filter finishes rs))

first_or_later : (r : Record) (rs : List Record) (q : ℕ) (b : Bool) → finishes r ≡ b
    → (list_any (eqb q) (seens rs) ≡ true → IsNamed rs q) → list_any (eqb q) (seens_with r rs b) ≡ true
    → IsNamed (r ∷ rs) q
first_or_later r rs q false none later is = named_later r rs q (later is)
first_or_later r rs q true makes later is = elim (or_cases (eqb q r.seen) (list_any (eqb q) (seens rs)) is) [
  | inl same ↦
      let names = sym (eqb-true q r.seen same) in
      record { place = 0; by = r; is = refl; finishing = makes; names = names }
  | inr rest ↦ named_later r rs q (later rest)
]

pub in_seens : (rs : List Record) (q : ℕ) → list_any (eqb q) (seens rs) ≡ true → IsNamed rs q
in_seens [] q is = absurd (false≢true is)
in_seens (r ∷ rs) q is = first_or_later r rs q (finishes r) refl (in_seens rs q) is

later_among : (r : Record) (rs : List Record) (q : ℕ) (b : Bool) → list_any (eqb q) (seens rs) ≡ true
    → list_any (eqb q) (seens_with r rs b) ≡ true
later_among r rs q true among = or_second (eqb q r.seen) (list_any (eqb q) (seens rs)) among
later_among r rs q false among = among

pub seen_among : (rs : List Record) (i q : ℕ) (r : Record) → slice_get rs i ≡ Some r → finishes r ≡ true
    → r.seen ≡ q → list_any (eqb q) (seens rs) ≡ true
seen_among [] i q r is makes names = absurd (none-some r is)
seen_among (x ∷ rs) zero q r is makes names =
    let same : x ≡ r = same_Some x r is in
    let first = eq-eqb q x.seen (sym names ∙ ap (λ (y : Record). y.seen) (sym same)) in
    ap (λ b. list_any (eqb q) (seens_with x rs b)) (ap finishes same ∙ makes)
    ∙ or_first (eqb q x.seen) (list_any (eqb q) (seens rs)) first
seen_among (x ∷ rs) (suc i) q r is makes names =
    later_among x rs q (finishes x) (seen_among rs i q r is makes names)

-- no two finishing records name one index
abbrev pub AreOnce : List Record → Type 0
AreOnce rs =
    (k i : ℕ) (a b : Record) → k < i → slice_get rs k ≡ Some a → slice_get rs i ≡ Some b → finishes a ≡ true
    → finishes b ≡ true → a.seen ≡ b.seen → ⊥

none_later : (r : Record) (rs : List Record) → AreOnce (r ∷ rs) → finishes r ≡ true
    → list_any (eqb r.seen) (seens rs) ≡ false
none_later r rs once makes = elim (cases_Bool (list_any (eqb r.seen) (seens rs))) [
  | inr free ↦ free
  | inl is ↦
      let named = in_seens rs r.seen is in
      let later : 0 < suc named.place = omega arith in
      let apart = once 0 (suc named.place) r named.by later refl named.is makes named.finishing in
      absurd (apart (sym named.names))
]

distinct_with : (r : Record) (rs : List Record) (b : Bool) → AreOnce (r ∷ rs) → finishes r ≡ b
    → IsDistinct eqb (seens rs) → IsDistinct eqb (seens_with r rs b)
distinct_with r rs false once makes rest = rest
distinct_with r rs true once makes rest = distinct_more r.seen (seens rs) (none_later r rs once makes) rest

pub seens_distinct : (rs : List Record) → AreOnce rs → IsDistinct eqb (seens rs)
seens_distinct [] once = distinct_none
seens_distinct (r ∷ rs) once =
    distinct_with r rs (finishes r) once refl
    (seens_distinct rs (λ k i a b less. once (suc k) (suc i) a b (omega (arith, less))))
