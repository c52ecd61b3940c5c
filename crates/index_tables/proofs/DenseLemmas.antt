-- How ids that lie close together get their slots, and how an index is found there.
use Rattle.std.proofs.Common.{◌≡◌, ◌≢◌, ◌∙◌, ℕ, ◌<◌, ◌≤◌, ◌+◌, ◌-◌, List, length, Option, Some, None, get_or}
use Rattle.std.proofs.Common.{refl, sym, ap, arith, inl, inr}
use Rattle.std.proofs.lemmas.Bool.{cases_eq, cases_lt}
use Rattle.std.proofs.lemmas.Option.{none-some, same_Some, slice_get_within, slice_get-get_or, slice_get_past}
use Rattle.std.proofs.lemmas.Option.{get_or_from_slice_get, slice_get_read}
use Rattle.std.proofs.lemmas.List.{length-set, get_or-set_same, get_or-set_other}
use Rattle.std.proofs.Math.ListN.{set}
use Rattle.std.specs.Prelude.{slice_get, slice_index, ◌↔◌}
use Rattle.index_tables.specs.Numbering.{AreApart, IsAgain, IsFirstAgain}
use Rattle.index_tables.specs.declared.dense.Indices.{Indices}
use Rattle.index_tables.specs.declared.dense.Indices.TheVariants.{Distances, Slots}
use Rattle.index_tables.specs.Dense.{AreBetween, AreIndexed, ArePlaced}

-- the slots are those of the first n ids
pub record ArePlacedBelow (ids : List ℕ) (least n : ℕ) (slots : List (Option ℕ)) : Type 0 where
  pub found : (distance index : ℕ) → slice_get slots distance ≡ Some (Some index)
      → (index < n) × (slice_get ids index ≡ Some (least + distance))
  pub placed : (distance index : ℕ) → index < n → slice_get ids index ≡ Some (least + distance)
      → slice_get slots distance ≡ Some (Some index)

-- ---- slots that are read and written

get_same : (slots : List (Option ℕ)) (k : ℕ) (slot : Option ℕ) → k < length slots
    → slice_get (set slots k slot) k ≡ Some slot
get_same slots k slot within =
    slice_get-get_or (set slots k slot) k slot (rw (length-set slots k slot) within)
    ∙ ap Some (get_or-set_same slots k slot slot within)

get_other : (slots : List (Option ℕ)) (k other : ℕ) (slot : Option ℕ) → other ≢ k
    → slice_get (set slots k slot) other ≡ slice_get slots other
get_other slots k other slot apart = elim (cases_lt other (length slots)) [
  | inl within ↦
      slice_get-get_or (set slots k slot) other slot (rw (length-set slots k slot) within)
      ∙ ap Some (get_or-set_other slots k other slot slot apart)
      ∙ sym (slice_get-get_or slots other slot within)
  | inr past ↦
      slice_get_past (set slots k slot) other (rw (length-set slots k slot) past)
      ∙ sym (slice_get_past slots other past)
]

-- ---- ids that get their slots

-- an id stands at its distance from the least
pub at_distance : (ids : List ℕ) (least places index : ℕ) → AreBetween ids least places → index < length ids
    → slice_get ids index ≡ Some (least + (slice_index ids index - least))
at_distance ids least places index between within =
    let low = (between index within).0 in
    let away : slice_index ids index ≡ least + (slice_index ids index - least) = omega (arith, low) in
    slice_get-get_or ids index 0 within ∙ ap Some away

-- the slot that is read at the distance of an id
pub slot_there : (ids : List ℕ) (least places index : ℕ) (slots : List (Option ℕ)) (slot : Option ℕ)
    → AreBetween ids least places → index < length ids → length slots ≡ places
    → slot ≡ get_or slots (slice_index ids index - least) slot
    → slice_get slots (slice_index ids index - least) ≡ Some slot
slot_there ids least places index slots slot between within long is =
    let low = (between index within).0 in
    let high = (between index within).1 in
    slice_get_read slots (length slots) (slice_index ids index - least) slot refl
    (omega (arith, low, high, long)) is

-- an id gets the slot at its distance, which is empty
pub placed_more : (ids : List ℕ) (least n distance : ℕ) (slots : List (Option ℕ))
    → ArePlacedBelow ids least n slots → slice_get ids n ≡ Some (least + distance)
    → slice_get slots distance ≡ Some None → ArePlacedBelow ids least (n + 1) (set slots distance (Some n))
placed_more ids least n distance slots are here free = record {
  found = λ d index is. elim (cases_eq d distance) [
    | inl same ↦
        let one : n ≡ index =
        same_Some n index
        (same_Some (Some n) (Some index)
        (sym (get_same slots distance (Some n) within)
        ∙ ap (slice_get (set slots distance (Some n))) (sym same) ∙ is)) in (
          omega (arith, one),
          ap (slice_get ids) (sym one) ∙ here ∙ ap (λ k. Some (least + k)) (sym same),
        )
    | inr other ↦
        let old = are.found d index (sym (get_other slots distance d (Some n) other) ∙ is) in
        (let less = old.0 in omega (arith, less), old.1)
  ];
  placed = λ d index below is. elim (cases_eq index n) [
    | inl last ↦
        let both : least + distance ≡ least + d =
        same_Some (least + distance) (least + d) (sym here ∙ ap (slice_get ids) (sym last) ∙ is) in
        let same : d ≡ distance = omega (arith, both) in
        ap (slice_get (set slots distance (Some n))) same ∙ get_same slots distance (Some n) within
        ∙ ap (λ k. Some (Some k)) (sym last)
    | inr earlier ↦
        let old = are.placed d index (omega (arith, below, earlier)) is in
        get_other slots distance d (Some n)
        (λ same.
        none-some index
        (same_Some None (Some index) (sym free ∙ ap (slice_get slots) (sym same) ∙ old)))
        ∙ old
  ];
}
  where
    within : distance < length slots
    within = slice_get_within slots distance None free

-- none of the first n ids is there again
once_placed : (ids : List ℕ) (least places n : ℕ) (slots : List (Option ℕ)) → AreBetween ids least places
    → ArePlacedBelow ids least n slots → (index : ℕ) → index < n → IsAgain ids index → ⊥
once_placed ids least places n slots between are index below (earlier, id, less, there, here) =
    let low = (between index (slice_get_within ids index id here)).0 in
    let same = get_or_from_slice_get ids index id 0 here in
    let away : id ≡ least + (id - least) = omega (arith, low, same) in
    let slot_a = are.placed (id - least) earlier (omega (arith, less, below)) (there ∙ ap Some away) in
    let slot_b = are.placed (id - least) index below (here ∙ ap Some away) in
    let one = same_Some earlier index (same_Some (Some earlier) (Some index) (sym slot_a ∙ slot_b)) in
    omega (arith, one, less)

-- an id whose slot is taken is the first that is there again
pub again_placed : (ids : List ℕ) (least places n distance : ℕ) (slots : List (Option ℕ)) (slot : Option ℕ)
    → AreBetween ids least places → ArePlacedBelow ids least n slots
    → slice_get ids n ≡ Some (least + distance) → slice_get slots distance ≡ Some slot → (slot ≡ None → ⊥)
    → IsFirstAgain ids n
again_placed ids least places n distance slots None between are here taken some = absurd (some refl)
again_placed ids least places n distance slots (Some k) between are here taken some =
    let there = are.found distance k taken in record {
      again = (k, least + distance, there.0, there.1, here);
      first = once_placed ids least places n slots between are;
    }

-- all ids have their slots
pub placed_all : (ids : List ℕ) (least places n : ℕ) (slots : List (Option ℕ)) → AreBetween ids least places
    → ArePlacedBelow ids least n slots → length ids ≤ n → ArePlaced ids least slots
placed_all ids least places n slots between are whole = record {
  low = λ index id is.
      let within = slice_get_within ids index id is in
      let low = (between index within).0 in
      let same = get_or_from_slice_get ids index id 0 is in
      omega (arith, low, same);
  found = λ distance index is. (are.found distance index is).1;
  placed = λ distance index is.
      let within = slice_get_within ids index (least + distance) is in
      are.placed distance index (omega (arith, within, whole)) is;
}

-- ---- ids that have their slots

-- no id is there twice
pub apart_placed : (ids : List ℕ) (least : ℕ) (slots : List (Option ℕ)) → ArePlaced ids least slots
    → AreApart ids
apart_placed ids least slots are a b id at_a at_b =
    let low = are.low a id at_a in
    let away : id ≡ least + (id - least) = omega (arith, low) in
    let slot_a = are.placed (id - least) a (at_a ∙ ap Some away) in
    let slot_b = are.placed (id - least) b (at_b ∙ ap Some away) in
    same_Some a b (same_Some (Some a) (Some b) (sym slot_a ∙ slot_b))

-- an id past the last slot is not in the list
pub index_past : (ids : List ℕ) (least id : ℕ) (slots : List (Option ℕ)) → ArePlaced ids least slots
    → least ≤ id → length slots ≤ id - least → (index : ℕ)
    → (None ≡ Some index) ↔ (slice_get ids index ≡ Some id)
index_past ids least id slots are low past index = (
  λ none. absurd (none-some index none),
  λ is.
      let away : id ≡ least + (id - least) = omega (arith, low) in
      let slot = are.placed (id - least) index (is ∙ ap Some away) in
      let within = slice_get_within slots (id - least) (Some index) slot in
      absurd (omega (arith, within, past)),
)

-- ids that have indices are apart
pub apart_indexed : (ids : List ℕ) (indices : Indices) → AreIndexed ids indices → AreApart ids
apart_indexed ids Distances are a b id at_a at_b =
    let of_a = are a (slice_get_within ids a id at_a) in
    let of_b = are b (slice_get_within ids b id at_b) in
    let is_a = get_or_from_slice_get ids a id 0 at_a in
    let is_b = get_or_from_slice_get ids b id 0 at_b in
    omega (arith, of_a, of_b, is_a, is_b)
apart_indexed ids (Slots placed) are a b id at_a at_b =
    apart_placed ids placed.least placed.slots.items are a b id at_a at_b
