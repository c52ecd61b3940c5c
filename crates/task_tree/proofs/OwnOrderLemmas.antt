-- The tasks' own order has each place once, by turn and then in file order.
use Rattle.std.proofs.Common.{◌≡◌, ◌∙◌, ℕ, ◌<◌, ◌≤◌, ◌+◌, suc, List, [], ◌∷◌, ◌⊎◌, ◌↔◌, Some, true, refl, sym}
use Rattle.std.proofs.Common.{ap, subst, arith, length, inl, inr}
use Rattle.std.proofs.lemmas.Option.{same_Some, slice_get_within, slice_get_cases}
use Rattle.std.proofs.lemmas.Bool.{cases_order, cases_lt}
use Rattle.std.proofs.lemmas.List.Sorted.{Contains-permutation, IsPermutation-sym, length_permutation}
use Rattle.std.proofs.lemmas.List.FromFn.{length-range_with_len}
use Rattle.std.specs.Prelude.{slice_get, option_and_then, is_some}
use Rattle.std.specs.List.Sorted.{IsPermutation}
use Rattle.ompt_events.specs.declared.records.Record.{Record}
use Rattle.ompt_events.specs.Places.{places}
use Rattle.ompt_events.specs.Turns.{turn_at, turns_in, own_places, in_own_order, own_place}
use Rattle.ompt_events.proofs.ListLemmas.{get_contains, contains_get}
pub use Rattle.ompt_events.proofs.TurnLemmas.{new_turn, turn_most, turn_low}
use Rattle.ompt_events.proofs.PlaceLemmas.{contains_place, place_below}
use Rattle.task_tree.specs.OwnOrder.{AreAllPlaces}
use Rattle.task_tree.proofs.RankedLemmas.{Every, every_weaker, Ranked, ranked_get, row_rises, row_below}
use Rattle.task_tree.proofs.RankedLemmas.{by_key_permuted, by_key_ranked, Comes, stands_at, stands_below}
use Rattle.task_tree.proofs.RankedLemmas.{not_standing, map_get, map_length}

-- ---- each place stands there once

pub own_permuted : (rs : List Record) → IsPermutation (places rs) (own_places rs)
own_permuted rs =
    by_key_permuted (turn_at rs) (turns_in rs) (places rs)
    (every_weaker (λ k. k < 0 + length rs) (λ i. turn_at rs i < turns_in rs) (λ i below. turn_low rs i)
    (places rs) (row_below 0 (length rs)))

pub own_ranked : (rs : List Record) → Ranked (Comes (turn_at rs)) (own_places rs)
own_ranked rs = by_key_ranked (turn_at rs) (turns_in rs) (places rs) (row_rises 0 (length rs))

pub own_length : (rs : List Record) → length (own_places rs) ≡ length rs
own_length rs =
    length_permutation (places rs) (own_places rs) (own_permuted rs) ∙ length-range_with_len 0 (length rs)

pub own_has : (rs : List Record) (i : ℕ) → i < length rs → (n : ℕ) × (slice_get (own_places rs) n ≡ Some i)
own_has rs i within =
    contains_get (own_places rs) i
    (Contains-permutation (places rs) (own_places rs) i (own_permuted rs) (contains_place rs i within))

pub own_within : (rs : List Record) (n i : ℕ) → slice_get (own_places rs) n ≡ Some i → i < length rs
own_within rs n i is =
    place_below rs i
    (Contains-permutation (own_places rs) (places rs) i
    (IsPermutation-sym (places rs) (own_places rs) (own_permuted rs))
    (get_contains (own_places rs) i n is))

-- the place of a place is below the length exactly where there is such a place
pub own_place_within : (rs : List Record) (i : ℕ) → i < length rs → own_place rs i < length rs
own_place_within rs i within =
    let there = own_has rs i within in
    let first = stands_below (own_places rs) i there.0 there.1 in
    let last = slice_get_within (own_places rs) there.0 i there.1 in
    let long = own_length rs in
    omega arith

pub own_place_past : (rs : List Record) (i : ℕ) → length rs ≤ i → own_place rs i ≡ length rs
own_place_past rs i past =
    not_standing (own_places rs) i (λ n is. let within = own_within rs n i is in absurd (omega arith))
    ∙ own_length rs

pub own_place_iff : (rs : List Record) (i : ℕ) → own_place rs i < length rs ↔ i < length rs
own_place_iff rs i = (back, own_place_within rs i)
  where
    back : own_place rs i < length rs → i < length rs
    back below = elim (cases_lt i (length rs)) [
      | inl within ↦ within
      | inr past ↦ let last = own_place_past rs i past in absurd (omega arith)
    ]

pub own_get : (rs : List Record) (i : ℕ) → i < length rs → slice_get (own_places rs) (own_place rs i) ≡ Some i
own_get rs i within =
    let below = own_place_within rs i within in
    let long = own_length rs in
    stands_at (own_places rs) i (omega arith)

-- what stands at one place, stands at no other
own_comes : (rs : List Record) (m n i k : ℕ) → m < n → slice_get (own_places rs) m ≡ Some i
    → slice_get (own_places rs) n ≡ Some k → Comes (turn_at rs) i k
own_comes rs m n i k less one other =
    ranked_get (Comes (turn_at rs)) (own_places rs) m n i k (own_ranked rs) less one other

not_itself : (rs : List Record) (i : ℕ) → Comes (turn_at rs) i i → ⊥
not_itself rs i (inl less) = absurd (omega arith)
not_itself rs i (inr (same, less)) = absurd (omega arith)

pub not_either_way : (rs : List Record) (i k : ℕ) → Comes (turn_at rs) i k → Comes (turn_at rs) k i → ⊥
not_either_way rs i k (inl one) (inl other) = absurd (omega arith)
not_either_way rs i k (inl one) (inr (same, less)) = absurd (omega arith)
not_either_way rs i k (inr (same, less)) (inl other) = absurd (omega arith)
not_either_way rs i k (inr (same, less)) (inr (same', less')) = absurd (omega arith)

pub own_place_of : (rs : List Record) (n i : ℕ) → slice_get (own_places rs) n ≡ Some i → own_place rs i ≡ n
own_place_of rs n i is =
    let first = stands_below (own_places rs) i n is in
    let at_first = own_get rs i (own_within rs n i is) in
    elim (cases_lt (own_place rs i) n) [
      | inl less ↦ absurd (not_itself rs i (own_comes rs (own_place rs i) n i i less at_first is))
      | inr more ↦ omega arith
    ]

-- by turn, and then in file order
pub own_order : (rs : List Record) (i k : ℕ) → i < length rs → k < length rs
    → own_place rs i < own_place rs k
    ↔ ((turn_at rs i < turn_at rs k) ⊎ ((turn_at rs i ≡ turn_at rs k) × (i < k)))
own_order rs i k one other = (
  λ less.
      own_comes rs (own_place rs i) (own_place rs k) i k less (own_get rs i one) (own_get rs k other),
  back,
)
  where
    back : Comes (turn_at rs) i k → own_place rs i < own_place rs k
    back comes = elim (cases_order (own_place rs i) (own_place rs k)) [
      | inl same ↦
          absurd
          (not_itself rs i
          (subst (Comes (turn_at rs) i)
          (same_Some k i
          (sym (own_get rs k other) ∙ ap (slice_get (own_places rs)) (sym same)
          ∙ own_get rs i one))
          comes))
      | inr (inl less) ↦ less
      | inr (inr more) ↦
          absurd
          (not_either_way rs i k comes
          (own_comes rs (own_place rs k) (own_place rs i) k i more (own_get rs k other)
          (own_get rs i one)))
    ]

-- ---- the records in that order

within_some : (rs : List Record) → Every (λ i. is_some (slice_get rs i) ≡ true) (own_places rs)
within_some rs = from (own_places rs) (λ n i is. own_within rs n i is)
  where
    some_below : (i : ℕ) → i < length rs → is_some (slice_get rs i) ≡ true
    some_below i within = elim (slice_get_cases rs i).1 [
      | inl (r, below, is, read) ↦ ap is_some is
      | inr (past, is) ↦ absurd (omega arith)
    ]

    from : (xs : List ℕ) → ((n i : ℕ) → slice_get xs n ≡ Some i → i < length rs)
        → Every (λ i. is_some (slice_get rs i) ≡ true) xs
    from [] all = tt
    from (x ∷ xs) all = (some_below x (all 0 x refl), from xs (λ n i is. all (suc n) i is))

pub arranged_length : (rs : List Record) → length (in_own_order rs) ≡ length rs
arranged_length rs = map_length (slice_get rs) (own_places rs) (within_some rs) ∙ own_length rs

pub arranged_at : (rs : List Record) (n i : ℕ) → slice_get (own_places rs) n ≡ Some i
    → slice_get (in_own_order rs) n ≡ slice_get rs i
arranged_at rs n i is =
    map_get (slice_get rs) (own_places rs) n (within_some rs) ∙ ap (option_and_then (slice_get rs)) is

pub arranged_get : (rs : List Record) (i : ℕ) → i < length rs
    → slice_get (in_own_order rs) (own_place rs i) ≡ slice_get rs i
arranged_get rs i within = arranged_at rs (own_place rs i) i (own_get rs i within)

-- the own order has each place once
pub own_all_places : (rs : List Record) → AreAllPlaces (own_places rs) (length rs)
own_all_places rs = record {
  all = own_length rs;
  below = own_within rs;
  each = own_has rs;
  apart =
      λ number other place one another.
      sym (own_place_of rs number place one) ∙ own_place_of rs other place another;
}
