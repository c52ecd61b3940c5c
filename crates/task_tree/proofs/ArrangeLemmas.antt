-- Places that are sorted by turn are the tasks' own order, and their numbers are the own places.
use Rattle.std.proofs.Common.{◌≡◌, ◌∙◌, ℕ, ◌<◌, ◌+◌, List, [], ◌∷◌, ◌++◌, Option, Some, None, refl, sym, ap}
use Rattle.std.proofs.Common.{subst, arith, length, inl, inr, map}
use Rattle.std.proofs.lemmas.Option.{none-some, same_Some, slice_get-map, slice_get_within}
use Rattle.std.proofs.lemmas.Option.{get_or_from_slice_get}
use Rattle.std.proofs.lemmas.List.{length-map}
use Rattle.std.proofs.lemmas.List.FromFn.{length-range_with_len, map-range_with_len_more}
use Rattle.std.proofs.lemmas.List.Sorted.{Contains-permutation, IsPermutation-map, IsPermutation-sym}
use Rattle.std.proofs.lemmas.List.Sorted.{IsPermutation-trans}
use Rattle.std.specs.Prelude.{slice_get, slice_index, option_map}
use Rattle.std.specs.List.{range_with_len}
use Rattle.std.specs.List.Sorted.{IsPermutation, IsSorted}
use Rattle.ompt_events.specs.declared.records.Record.{Record}
use Rattle.ompt_events.specs.Places.{places}
use Rattle.ompt_events.specs.Turns.{turn_at, own_places}
use Rattle.ompt_events.proofs.ListLemmas.{get_contains, contains_get}
use Rattle.task_tree.specs.TurnTable.{AreTurns}
use Rattle.task_tree.specs.GapSearch.{pair_cmp}
use Rattle.task_tree.specs.OwnOrder.{AreInverse, AreApartBelow, AreOrderNumbers}
use Rattle.task_tree.proofs.RankedLemmas.{Every, every_get, every_weaker, row_below, Comes}
use Rattle.task_tree.proofs.SortedLemmas.{ranked_from, ranked_equal, map_range, pair_order, apart_in_order}
use Rattle.task_tree.proofs.SortedLemmas.{sorted_order}
use Rattle.task_tree.proofs.OwnOrderLemmas.{own_permuted, own_ranked, own_length, own_has, own_within}
use Rattle.task_tree.proofs.OwnOrderLemmas.{own_place_of, not_either_way}

-- ---- the turns by place

pub turns_length : (rs : List Record) (turns : List ℕ) → AreTurns rs turns → length turns ≡ length rs
turns_length rs turns are =
    ap length are ∙ length-map (places rs) (turn_at rs) ∙ length-range_with_len 0 (length rs)

pub turns_get : (rs : List Record) (turns : List ℕ) (i : ℕ) → AreTurns rs turns → i < length rs
    → slice_get turns i ≡ Some (turn_at rs i)
turns_get rs turns i are within = ap (λ l. slice_get l i) are ∙ map_range (turn_at rs) (length rs) i within

pub turns_index : (rs : List Record) (turns : List ℕ) (i : ℕ) → AreTurns rs turns → i < length rs
    → slice_index turns i ≡ turn_at rs i
turns_index rs turns i are within =
    get_or_from_slice_get turns i (turn_at rs i) 0 (turns_get rs turns i are within)

-- ---- keys: a turn and a place

key_places : (f : ℕ → ℕ) (l : List ℕ) → map (λ (key : ℕ × ℕ). key.1) (map {B = ℕ × ℕ} (λ i. (f i, i)) l) ≡ l
key_places f [] = refl
key_places f (i ∷ l) = ap (λ m. i ∷ m) (key_places f l)

key_turns : (f g : ℕ → ℕ) (l : List ℕ) → Every (λ i. f i ≡ g i) l
    → Every (λ (key : ℕ × ℕ). key.0 ≡ g key.1) (map {B = ℕ × ℕ} (λ i. (f i, i)) l)
key_turns f g [] each = tt
key_turns f g (i ∷ l) each = (each.0, key_turns f g l each.1)

-- what is read of the places is read of the keys
read_key : (keys : List (ℕ × ℕ)) (n i : ℕ) → slice_get (map (λ (key : ℕ × ℕ). key.1) keys) n ≡ Some i
    → (key : ℕ × ℕ) × (slice_get keys n ≡ Some key) × (key.1 ≡ i)
read_key keys n i is = by (slice_get keys n) refl (sym (slice_get-map (λ (key : ℕ × ℕ). key.1) keys n) ∙ is)
  where
    by : (o : Option (ℕ × ℕ)) → slice_get keys n ≡ o → option_map (λ (key : ℕ × ℕ). key.1) o ≡ Some i
        → (key : ℕ × ℕ) × (slice_get keys n ≡ Some key) × (key.1 ≡ i)
    by None e none = absurd (none-some i none)
    by (Some key) e same = (key, e, same_Some key.1 i same)

pub sorted_is_own : (rs : List Record) (turns : List ℕ) (keys sorted : List (ℕ × ℕ)) (ordered : List ℕ)
    → AreTurns rs turns
    → keys ≡ map {B = ℕ × ℕ} (λ i. (slice_index turns i, i)) (range_with_len 0 (length turns))
    → IsPermutation keys sorted → IsSorted pair_cmp sorted → ordered ≡ map (λ (key : ℕ × ℕ). key.1) sorted
    → ordered ≡ own_places rs
sorted_is_own rs turns keys sorted ordered are keys_are moved in_order read =
    ranked_equal (Comes (turn_at rs)) (not_either_way rs) ordered (own_places rs)
    (ranked_from (Comes (turn_at rs)) ordered comes) (own_ranked rs)
    (IsPermutation-trans ordered (places rs) (own_places rs) (IsPermutation-sym (places rs) ordered permuted)
    (own_permuted rs))
  where
    all : range_with_len 0 (length turns) ≡ places rs
    all = ap (range_with_len 0) (turns_length rs turns are)

    back : map (λ (key : ℕ × ℕ). key.1) keys ≡ places rs
    back =
        ap (map (λ (key : ℕ × ℕ). key.1)) keys_are
        ∙ key_places (slice_index turns) (range_with_len 0 (length turns)) ∙ all

    permuted : IsPermutation (places rs) ordered
    permuted = rw (sym back, read) (IsPermutation-map (λ (key : ℕ × ℕ). key.1) keys sorted moved)

    right : Every (λ (key : ℕ × ℕ). key.0 ≡ turn_at rs key.1) keys
    right =
        rw (keys_are, all)
        (key_turns (slice_index turns) (turn_at rs) (places rs)
        (every_weaker (λ i. i < 0 + length rs) (λ i. slice_index turns i ≡ turn_at rs i)
        (λ i below. turns_index rs turns i are (omega arith)) (places rs)
        (row_below 0 (length rs))))

    -- the first number of each key is the turn at the second
    turn_of_key : (n : ℕ) (key : ℕ × ℕ) → slice_get sorted n ≡ Some key → key.0 ≡ turn_at rs key.1
    turn_of_key n key is =
        let there =
        contains_get keys key
        (Contains-permutation sorted keys key (IsPermutation-sym keys sorted moved)
        (get_contains sorted key n is)) in
        every_get (λ (k : ℕ × ℕ). k.0 ≡ turn_at rs k.1) keys there.0 key right there.1

    comes : (a b i k : ℕ) → a < b → slice_get ordered a ≡ Some i → slice_get ordered b ≡ Some k
        → Comes (turn_at rs) i k
    comes a b i k less one other =
        let p = read_key sorted a i (ap (λ l. slice_get l a) (sym read) ∙ one) in
        let q = read_key sorted b k (ap (λ l. slice_get l b) (sym read) ∙ other) in
        let differ = apart_in_order (length rs) ordered permuted a b i k less one other in
        let one_turn = turn_of_key a p.0 p.1 in
        let other_turn = turn_of_key b q.0 q.1 in
        let first : turn_at rs p.0.1 ≡ turn_at rs i = ap (turn_at rs) p.2 in
        let second : turn_at rs q.0.1 ≡ turn_at rs k = ap (turn_at rs) q.2 in
        let place = p.2 in
        let later = q.2 in
        elim
        (pair_order p.0 q.0 (sorted_order sorted in_order a b p.0 q.0 less p.1 q.1)
        (λ e. differ (sym place ∙ e ∙ later))) [
          | inl below ↦ inl (omega (arith, below, one_turn, other_turn, first, second))
          | inr (same, below) ↦
              inr (
                omega (arith, same, one_turn, other_turn, first, second),
                omega (arith, below, place, later),
              )
        ]

-- ---- the numbers by place

pub own_apart : (rs : List Record) (ordered : List ℕ) → ordered ≡ own_places rs
    → AreApartBelow ordered (length ordered)
own_apart rs ordered is = record {
  below = λ number place stands.
      let within = own_within rs number place (ap (λ l. slice_get l number) (sym is) ∙ stands) in
      let long : length ordered ≡ length rs = ap length is ∙ own_length rs in
      omega (arith, within, long);
  apart = λ number other place one another.
      sym (own_place_of rs number place (ap (λ l. slice_get l number) (sym is) ∙ one))
      ∙ own_place_of rs other place (ap (λ l. slice_get l other) (sym is) ∙ another);
}

-- the numbers by place and the places by number are inverse
pub are_inverse : (rs : List Record) (ordered numbers : List ℕ) → ordered ≡ own_places rs
    → AreOrderNumbers ordered (length ordered) numbers → AreInverse ordered numbers
are_inverse rs ordered numbers is are = record {
  all = are.all;
  back = λ place number stands. numbered place number stands;
  there = λ place number found.
      let long : length ordered ≡ length rs = ap length is ∙ own_length rs in
      let below = slice_get_within numbers place number found in
      let has = own_has rs place (let as_long = are.all in omega (arith, below, long, as_long)) in
      let stands : slice_get ordered has.0 ≡ Some place = ap (λ l. slice_get l has.0) is ∙ has.1 in
      let P : ℕ → Type 0 = λ n. slice_get ordered n ≡ Some place in
      subst P (same_Some has.0 number (sym (numbered place has.0 stands) ∙ found)) stands;
}
  where
    numbered : (place number : ℕ) → slice_get ordered number ≡ Some place
        → slice_get numbers place ≡ Some number
    numbered place number stands = are.each number place (slice_get_within ordered number place stands) stands

-- one key more
pub key_pushed : (turns : List ℕ) (n turn : ℕ) (old new : List (ℕ × ℕ))
    → old ≡ map {B = ℕ × ℕ} (λ at. (slice_index turns at, at)) (range_with_len 0 n)
    → turn ≡ slice_index turns n → new ≡ old ++ (turn, n) ∷ []
    → new ≡ map {B = ℕ × ℕ} (λ at. (slice_index turns at, at)) (range_with_len 0 (n + 1))
key_pushed turns n turn old new are is pushed =
    let f : ℕ → ℕ × ℕ = λ at. (slice_index turns at, at) in
    pushed ∙ ap (λ l. l ++ (turn, n) ∷ []) are ∙ ap (λ (t : ℕ). map f (range_with_len 0 n) ++ (t, n) ∷ []) is
    ∙ sym (map-range_with_len_more f 0 n n (omega arith))
