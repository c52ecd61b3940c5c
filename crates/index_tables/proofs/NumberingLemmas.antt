-- How the index of an id is found in a list, and when an id is there again.
use Rattle.std.proofs.Common.{◌≡◌, ◌∙◌, ℕ, ◌<◌, List, length, Option, Some, None, true, false}
use Rattle.std.proofs.Common.{refl, sym, ap, arith, inl, inr, take, nat_eq, get_or, ◌++◌, ◌∷◌, []}
use Rattle.std.proofs.Common.{◌⊎◌, zero, suc}
use Rattle.std.proofs.lemmas.Bool.{cases_eq, cases_order, eq-eqb, ne_eqb, eqb-true, lt-ltb, false≢true}
use Rattle.std.proofs.lemmas.Option.{same_Some, slice_get_within, slice_get-get_or}
use Rattle.std.proofs.lemmas.Option.{get_or_from_slice_get}
use Rattle.std.proofs.lemmas.List.Sums.{position_or_len_is}
use Rattle.std.proofs.lemmas.List.Quantifiers.{position-Some}
use Rattle.std.proofs.lemmas.List.{get_or-take, length-take}
use Rattle.std.proofs.lemmas.List.Elements.{Contains-append_right, Contains-append_cases}
use Rattle.std.proofs.lemmas.Map.Views.{Contains-from_any, list_any-from_Contains}
use Rattle.std.proofs.lemmas.Cmp.{nat_eq_equiv}
use Rattle.std.specs.List.{position, position_or_len, list_any}
use Rattle.std.specs.Prelude.{slice_get, slice_index, is_some, Contains, ◌↔◌}
use Rattle.indexmap.specs.IndexSet.{insert_key}
use Rattle.index_tables.specs.Numbering.{AreApart, IsAgain}

-- the index of an id is where it stands
pub position_is : (ids : List ℕ) (id : ℕ) → AreApart ids → (index : ℕ)
    → (position (nat_eq id) ids ≡ Some index) ↔ (slice_get ids index ≡ Some id)
position_is ids id apart index = (found, stands)
  where
    found : position (nat_eq id) ids ≡ Some index → slice_get ids index ≡ Some id
    found is =
        let some = position-Some (nat_eq id) ids index 0 is in
        slice_get-get_or ids index 0 some.0 ∙ ap Some (sym (eqb-true id (get_or ids index 0) some.1))

    not_before : slice_get ids index ≡ Some id → (k : ℕ) → k < index → nat_eq id (get_or ids k 0) ≡ false
    not_before is k less =
        ne_eqb id (get_or ids k 0)
        (λ same.
        let within = slice_get_within ids index id is in
        let there : slice_get ids k ≡ Some id =
        slice_get-get_or ids k 0 (omega (arith, within, less)) ∙ ap Some (sym same) in
        let equal = apart k index id there is in
        omega (arith, equal, less))

    stands : slice_get ids index ≡ Some id → position (nat_eq id) ids ≡ Some index
    stands is =
        let within = slice_get_within ids index id is in
        let here : position_or_len (nat_eq id) ids ≡ index =
        position_or_len_is (nat_eq id) ids index 0 (omega (arith, within)) (not_before is)
        (λ _. eq-eqb id (get_or ids index 0) (sym (get_or_from_slice_get ids index id 0 is))) in
        let low : position_or_len (nat_eq id) ids < length ids = omega (arith, within, here) in
        rw (lt-ltb (position_or_len (nat_eq id) ids) (length ids) low) (ap Some here)

-- an id stands at one index
pub index_is : (ids : List ℕ) (id near : ℕ) → AreApart ids → slice_get ids near ≡ Some id → (index : ℕ)
    → (Some near ≡ Some index) ↔ (slice_get ids index ≡ Some id)
index_is ids id near apart is index = (
  λ same.
      ap (slice_get ids) (sym (same_Some near index same)) ∙ is,
  λ is_too. ap Some (apart near index id is is_too),
)

-- an id that has an index is in the list, and one that is in the list has an index
pub index_known : (ids : List ℕ) (id : ℕ) (index : Option ℕ)
    → ((k : ℕ) → (index ≡ Some k) ↔ (slice_get ids k ≡ Some id)) → (is_some index ≡ true) ↔ Contains ids id
index_known ids id index is = (from index is, to)
  where
    from : (o : Option ℕ) → ((k : ℕ) → (o ≡ Some k) ↔ (slice_get ids k ≡ Some id)) → is_some o ≡ true
        → Contains ids id
    from None is' none = absurd (false≢true none)
    from (Some k) is' some =
        let there = (is' k).0 refl in
        (k, slice_get_within ids k id there, get_or_from_slice_get ids k id id there)

    to : Contains ids id → is_some index ≡ true
    to (k, inside, same) =
        ap is_some ((is k).1 (slice_get-get_or ids k id inside ∙ ap Some same))

-- ---- ids that are put into a table one after another

-- an id is there again if it is among those before it
pub again_here : (ids : List ℕ) (index : ℕ) → index < length ids
    → list_any (nat_eq (slice_index ids index)) (take index ids) ≡ true → IsAgain ids index
again_here ids index within found = (
  has.0,
  slice_index ids index,
  earlier,
  slice_get-get_or ids has.0 (slice_index ids index) (omega (arith, earlier, within))
      ∙ ap Some (sym (get_or-take index ids has.0 (slice_index ids index) earlier) ∙ has.2),
  slice_get-get_or ids index 0 within,
)
  where
    has : Contains (take index ids) (slice_index ids index)
    has = Contains-from_any eqb-true (slice_index ids index) (take index ids) found

    earlier : has.0 < index
    earlier =
        let inside = has.1 in
        let short = length-take index ids in
        omega (arith, inside, short, within)

pub not_again : (ids : List ℕ) (index : ℕ)
    → list_any (nat_eq (slice_index ids index)) (take index ids) ≡ false → IsAgain ids index → ⊥
not_again ids index none (earlier, id, less, there, here) =
    false≢true (sym none ∙ list_any-from_Contains nat_eq_equiv (slice_index ids index) (take index ids) has)
  where
    same : slice_index ids index ≡ id
    same = get_or_from_slice_get ids index id 0 here

    has : Contains (take index ids) (slice_index ids index)
    has =
        let within = slice_get_within ids index id here in
        let short = length-take index ids in (
          earlier,
          omega (arith, less, within, short),
          get_or-take index ids earlier (slice_index ids index) less
              ∙ get_or_from_slice_get ids earlier id (slice_index ids index) there
              ∙ sym same,
        )

pub insert_key_new : (ids : List ℕ) (id : ℕ) → list_any (nat_eq id) ids ≡ false
    → insert_key nat_eq ids id ≡ ids ++ id ∷ []
insert_key_new ids id none = rw none refl

-- ids of which none is there again are apart
pub apart_if : (ids : List ℕ) → ((index : ℕ) → index < length ids → IsAgain ids index → ⊥) → AreApart ids
apart_if ids none a b id at_a at_b = elim (cases_order a b) [
  | inl same ↦ same
  | inr (inl less) ↦ absurd (none b (slice_get_within ids b id at_b) (a, id, less, at_a, at_b))
  | inr (inr more) ↦ absurd (none a (slice_get_within ids a id at_a) (b, id, more, at_b, at_a))
]

-- an id is in the list or not
pub contains_or_not : (ids : List ℕ) (id : ℕ) → Contains ids id ⊎ (Contains ids id → ⊥)
contains_or_not [] id = inr (λ has. let low = has.1 in omega arith)
contains_or_not (x ∷ xs) id = elim (cases_eq x id) [
  | inl same ↦ inl (0, omega arith, same)
  | inr apart ↦ elim (contains_or_not xs id) [
    | inl later ↦ inl (Contains-append_right (x ∷ []) xs id later)
    | inr none ↦ inr (λ has. elim (Contains-append_cases (x ∷ []) xs id has) [
      | inl first ↦ apart (only first)
      | inr later ↦ none later
    ])
  ]
]
  where
    only : Contains (x ∷ []) id → x ≡ id
    only (zero, below, is) = is
    only (suc k, below, is) = absurd (omega arith)
