-- Lists of items of few records: how they grow, and what a search by place finds in them.
use Rattle.std.proofs.Common.{ℕ, ◌≡◌, ◌∙◌, ◌<◌, ◌≤◌, ◌⊎◌, List, [], ◌∷◌, ◌++◌, length, get_or, Option, Some}
use Rattle.std.proofs.Common.{None, inl, inr, refl, sym, ap, arith}
use Rattle.std.proofs.lemmas.Bool.{cases_lt}
use Rattle.std.proofs.lemmas.List.{length_push}
use Rattle.std.proofs.lemmas.Option.{none-some, slice_get_within, slice_get-get_or}
use Rattle.std.proofs.lemmas.Option.{get_or_from_slice_get}
use Rattle.ompt_events.specs.declared.records.Record.{Record}
use Rattle.ompt_events.specs.declared.records.Body.{Body}
use Rattle.ompt_events.specs.Places.{at}
use Rattle.ompt_events.proofs.ListLemmas.{get_last, get_pushed, pushed_cases}
use Rattle.ompt_events.proofs.PlaceLemmas.{at_get, get_at}
use Rattle.packed_trace.specs.Sparse.{AreSparse, AddsItem}

module _ {X : Type 0} (says : Body → Option X) where
  module _ (rs : List Record) (r : Record) where
    -- what the longer list says at a place it said there before, or the last record says it
    said_cases : (i : ℕ) (x : X) → at says (rs ++ r ∷ []) i ≡ Some x
        → (at says rs i ≡ Some x) ⊎ ((i ≡ length rs) × (says r.body ≡ Some x))
    said_cases i x is =
        let (q, stands, said) = get_at says (rs ++ r ∷ []) i x is in
        elim (pushed_cases rs r q i stands) [
          | inl old ↦ inl (at_get says rs i q old ∙ said)
          | inr (last, same) ↦ inr (last, ap (λ (e : Record). says e.body) same ∙ said)
        ]

    said_still : (i : ℕ) (x : X) → at says rs i ≡ Some x → at says (rs ++ r ∷ []) i ≡ Some x
    said_still i x is =
        let (q, stands, said) = get_at says rs i x is in
        at_get says (rs ++ r ∷ []) i q (get_pushed rs r q i stands) ∙ said

    others : (places : List ℕ) (items : List X) → AreSparse says rs places items → says r.body ≡ None
        → AreSparse says (rs ++ r ∷ []) places items
    others places items are none = record {
      all = are.all;
      each =
          λ i x is. elim (said_cases i x is) [
            | inl old ↦ are.each i x old
            | inr (last, said) ↦ absurd (none-some x (sym none ∙ said))
          ];
      only = λ k i x is there. said_still i x (are.only k i x is there);
      within =
          λ k i is.
          let below = are.within k i is in
          let longer = length_push rs r in omega (arith, below, longer);
      rising = are.rising;
    }

    one_more : (places : List ℕ) (items : List X) (x : X) → AreSparse says rs places items
        → says r.body ≡ Some x → AreSparse says (rs ++ r ∷ []) (places ++ length rs ∷ []) (items ++ x ∷ [])
    one_more places items x are says_x = record {
      all =
          let old = are.all in
          let longer = length_push places (length rs) in
          let more = length_push items x in omega (arith, old, longer, more);
      each =
          λ i y is. elim (said_cases i y is) [
            | inl old ↦
                let (k, stands, there) = are.each i y old in
                (k, get_pushed places (length rs) i k stands, get_pushed items x y k there)
            | inr (last, said) ↦ (
              length places,
              rw last (get_last places (length rs) (length places) refl),
              get_last items x (length places) are.all ∙ sym says_x ∙ said,
            )
          ];
      only =
          λ k i y is there. elim (pushed_cases places (length rs) i k is) [
            | inl old ↦ elim (pushed_cases items x y k there) [
              | inl before ↦ said_still i y (are.only k i y old before)
              | inr (last, same) ↦
                  let inside = slice_get_within places k i old in
                  let all = are.all in absurd (omega (arith, inside, all, last))
            ]
            | inr (end, same) ↦ elim (pushed_cases items x y k there) [
              | inl before ↦
                  let inside = slice_get_within items k y before in
                  let all = are.all in absurd (omega (arith, inside, all, end))
              | inr (last, alike) ↦
                  at_get says (rs ++ r ∷ []) i r (get_last rs r i (sym same)) ∙ says_x ∙ ap Some alike
            ]
          ];
      within =
          λ k i is.
          let longer = length_push rs r in elim (pushed_cases places (length rs) i k is) [
            | inl old ↦ let below = are.within k i old in omega (arith, below, longer)
            | inr (end, same) ↦ omega (arith, same, longer)
          ];
      rising =
          λ a b place later less is there. elim (pushed_cases places (length rs) later b there) [
            | inl old ↦ elim (pushed_cases places (length rs) place a is) [
              | inl before ↦ are.rising a b place later less before old
              | inr (end, same) ↦
                  let inside = slice_get_within places b later old in
                  absurd (omega (arith, inside, end, less))
            ]
            | inr (end, same) ↦ elim (pushed_cases places (length rs) place a is) [
              | inl before ↦ let below = are.within a place before in omega (arith, below, same)
              | inr (last, alike) ↦ absurd (omega (arith, end, last, less))
            ]
          ];
    }

    pub sparse_more : (places : List ℕ) (items : List X) (new_places : List ℕ) (new_items : List X)
        (found : Option X) → says r.body ≡ found → AreSparse says rs places items
        → AddsItem places items new_places new_items (length rs) found
        → AreSparse says (rs ++ r ∷ []) new_places new_items
    sparse_more places items new_places new_items None none are (same, still) =
        rw (same, still) (others places items are none)
    sparse_more places items new_places new_items (Some x) says_x are (more, one) =
        rw (more, one) (one_more places items x are says_x)

  -- ---- the search

  no_lower : (rs : List Record) (places : List ℕ) (items : List X) → AreSparse says rs places items →
      (i j : ℕ)
      → i ≤ j → j < length places → get_or places i 0 ≤ get_or places j 0
  no_lower rs places items are i j before below = elim (cases_lt i j) [
    | inl less ↦
        let first = slice_get-get_or places i 0 (omega (arith, less, below)) in
        let second = slice_get-get_or places j 0 below in
        let rises = are.rising i j (get_or places i 0) (get_or places j 0) less first second in
        omega (arith, rises)
    | inr not_less ↦ let same : i ≡ j = omega (arith, before, not_less) in rw same (omega arith)
  ]

  pub rises_so : (rs : List Record) (places : List ℕ) (items : List X) → AreSparse says rs places items
      → (i j : ℕ) → i ≤ j → j < length places → get_or places i 0 ≤ get_or places j 0
  rises_so = no_lower

  -- if the place stands nowhere the record says nothing
  pub found_nowhere : (rs : List Record) (places : List ℕ) (items : List X) (place index : ℕ)
      → AreSparse says rs places items → ((k : ℕ) → k < index → get_or places k 0 < place)
      → ((k : ℕ) → index ≤ k → k < length places → place < get_or places k 0) → at says rs place ≡ None
  found_nowhere rs places items place index are below above = by (at says rs place) refl
    where
      by : (o : Option X) → at says rs place ≡ o → o ≡ None
      by None is = refl
      by (Some x) is =
          let (k, stands, there) = are.each place x is in
          let inside = slice_get_within places k place stands in
          let same = get_or_from_slice_get places k place 0 stands in
          elim (cases_lt k index) [
            | inl less ↦ let under = below k less in absurd (omega (arith, under, same))
            | inr not_less ↦ let over = above k (omega (arith, not_less)) inside in absurd
                (omega (arith, over, same))
          ]
