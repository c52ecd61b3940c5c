-- The moves of a task are those that the records make.
use Rattle.std.proofs.Common.{◌≡◌, ◌≢◌, ◌∙◌, ℕ, zero, suc, ◌<◌, ◌≤◌, ◌+◌, List, [], ◌∷◌, ◌++◌, length, Option}
use Rattle.std.proofs.Common.{true, false, Bool, cond, ltb, refl, sym, ap, subst, arith, inl, inr, ◌⊎◌}
use Rattle.std.proofs.Common.{add-one}
use Rattle.std.proofs.lemmas.Bool.{cases_eq, cases_lt, eq-eqb, ne_eqb, eqb-true, false≢true, true≢false}
use Rattle.std.proofs.lemmas.Bool.{lt-ltb, le-ltb}
use Rattle.std.proofs.lemmas.Option.{slice_get_past}
use Rattle.std.proofs.lemmas.List.{append-nil}
use Rattle.std.proofs.lemmas.List.Elements.{filter-append}
use Rattle.std.specs.Prelude.{◌==◌, ◌&&◌, not, filter, map}
use Rattle.std.specs.List.{flat_map, range_with_len}
use Rattle.std.specs.Option.{option_map_or}
use Rattle.ompt_events.specs.declared.records.Record.{Record}
use Rattle.ompt_events.specs.Places.{places}
use Rattle.ompt_events.specs.States.{Move, moves_by, moves_at, home_of, is_on, is_early, places_of, moves_of}
use Rattle.ompt_events.proofs.PlaceLemmas.{range_more}

-- the moves at a place are those of one place
labelled : (k i : ℕ) (moves : List Move)
    → filter (λ (step : ℕ × Move). step.0 == i) (map (λ move. (k, move)) moves)
    ≡ cond (k == i) (map (λ move. (k, move)) moves) []
labelled k i [] = none (k == i)
  where
    none : (b : Bool) → [] ≡ cond {A = List (ℕ × Move)} b [] []
    none true = refl
    none false = refl
labelled k i (move ∷ moves) =
    ap (λ (rest : List (ℕ × Move)). cond {A = List (ℕ × Move)} (k == i) ((k, move) ∷ rest) rest)
    (labelled k i moves)
    ∙ both (k == i)
  where
    both : (b : Bool)
        → cond {A = List (ℕ × Move)} b ((k, move) ∷ cond b (map (λ m. (k, m)) moves) [])
        (cond b (map (λ m. (k, m)) moves) [])
        ≡ cond {A = List (ℕ × Move)} b ((k, move) ∷ map (λ m. (k, m)) moves) []
    both true = refl
    both false = refl

-- so those at i come from the places that are i
of_places : (rs : List Record) (task i : ℕ) (xs : List ℕ)
    → filter (λ (step : ℕ × Move). step.0 == i) (flat_map (moves_at rs task) xs)
    ≡ flat_map (moves_at rs task) (filter (λ k. k == i) xs)
of_places rs task i [] = refl
of_places rs task i (k ∷ ks) =
    filter-append (λ (step : ℕ × Move). step.0 == i) (moves_at rs task k) (flat_map (moves_at rs task) ks)
    ∙ ap (λ front. front ++ filter (λ (step : ℕ × Move). step.0 == i) (flat_map (moves_at rs task) ks))
    (here k)
    ∙ ap (λ rest. cond (k == i) (moves_at rs task k) [] ++ rest) (of_places rs task i ks)
    ∙ both (k == i)
  where
    here : (j : ℕ)
        → filter (λ (step : ℕ × Move). step.0 == i) (moves_at rs task j)
        ≡ cond (j == i) (moves_at rs task j) []
    here j = labelled j i _

    both : (b : Bool)
        → cond b (moves_at rs task k) [] ++ flat_map (moves_at rs task) (filter (λ j. j == i) ks)
        ≡ flat_map (moves_at rs task) (cond b (k ∷ filter (λ j. j == i) ks) (filter (λ j. j == i) ks))
    both true = refl
    both false = refl

-- of the places that pass a test, those that are i
passing : (p : ℕ → Bool) (i : ℕ) (xs : List ℕ)
    → filter (λ k. k == i) (filter p xs) ≡ cond (p i) (filter (λ k. k == i) xs) []
passing p i [] = none (p i)
  where
    none : (b : Bool) → [] ≡ cond {A = List ℕ} b [] []
    none true = refl
    none false = refl
passing p i (x ∷ xs) =
    kept (p x) ∙ joined _ _ (p x) (x == i) (p i) (λ c. ap p (eqb-true x i c)) (passing p i xs)
  where
    kept : (b : Bool)
        → filter (λ k. k == i) (cond b (x ∷ filter p xs) (filter p xs))
        ≡ cond b
        (cond (x == i) (x ∷ filter (λ k. k == i) (filter p xs)) (filter (λ k. k == i) (filter p xs)))
        (filter (λ k. k == i) (filter p xs))
    kept true = refl
    kept false = refl

    joined : (rest all : List ℕ) (b c q : Bool) → (c ≡ true → b ≡ q) → rest ≡ cond q all []
        → cond b (cond c (x ∷ rest) rest) rest ≡ cond q (cond c (x ∷ all) all) []
    joined rest all true true true h e = ap (λ l. x ∷ l) e
    joined rest all true true false h e = absurd (true≢false (h refl))
    joined rest all false true true h e = absurd (false≢true (h refl))
    joined rest all false true false h e = e
    joined rest all true false q h e = e
    joined rest all false false q h e = e

-- a place is among the places once
place_once : (i n : ℕ) → filter (λ k. k == i) (range_with_len 0 n) ≡ cond (ltb i n) (i ∷ []) []
place_once i zero = ap (λ b. cond b (i ∷ []) []) (sym (le-ltb i 0 (omega arith)))
place_once i (suc n) =
    let P : ℕ → Type 0 = λ m. filter (λ k. k == i) (range_with_len 0 m) ≡ cond (ltb i m) (i ∷ []) [] in
    subst P (add-one n) (more (place_once i n))
  where
    last : filter (λ k. k == i) (range_with_len 0 (n + 1))
        ≡ filter (λ k. k == i) (range_with_len 0 n) ++ cond (n == i) (n ∷ []) []
    last =
        ap (filter (λ k. k == i)) (range_more n) ∙ filter-append (λ k. k == i) (range_with_len 0 n) (n ∷ [])

    more : filter (λ k. k == i) (range_with_len 0 n) ≡ cond (ltb i n) (i ∷ []) []
        → filter (λ k. k == i) (range_with_len 0 (n + 1)) ≡ cond (ltb i (n + 1)) (i ∷ []) []
    more before = elim (cases_eq n i) [
      | inl same ↦
          last
          ∙ ap (λ l. l ++ cond (n == i) (n ∷ []) [])
          (before ∙ ap (λ b. cond b (i ∷ []) []) (le-ltb i n (omega arith)))
          ∙ ap (λ b. cond b (n ∷ []) []) (eq-eqb n i same) ∙ ap (λ k. k ∷ []) same
          ∙ sym (ap (λ b. cond b (i ∷ []) []) (lt-ltb i (n + 1) (omega arith)))
      | inr apart ↦
          last ∙ ap (λ b. filter (λ k. k == i) (range_with_len 0 n) ++ cond b (n ∷ []) []) (ne_eqb n i apart)
          ∙ append-nil (filter (λ k. k == i) (range_with_len 0 n)) ∙ before
          ∙ ap (λ b. cond b (i ∷ []) []) (same_test apart (cases_lt i n))
    ]
      where
        same_test : n ≢ i → (i < n) ⊎ (n ≤ i) → ltb i n ≡ ltb i (n + 1)
        same_test apart (inl below) = lt-ltb i n below ∙ sym (lt-ltb i (n + 1) (omega arith))
        same_test apart (inr above) = le-ltb i n above ∙ sym (le-ltb i (n + 1) (omega arith))

-- each place passes exactly one of three tests
one_of_three : (all : List ℕ) (e h : Bool)
    → (cond (e && not h) all [] ++ cond h all []) ++ cond (not e && not h) all [] ≡ all
one_of_three all true true = append-nil all
one_of_three all true false = append-nil (all ++ []) ∙ append-nil all
one_of_three all false true = append-nil all
one_of_three all false false = refl

in_three : (e h : ℕ → Bool) (i : ℕ) (xs : List ℕ)
    → filter (λ k. k == i)
    ((filter (λ k. e k && not (h k)) xs ++ filter h xs) ++ filter (λ k. not (e k) && not (h k)) xs)
    ≡ filter (λ k. k == i) xs
in_three e h i xs =
    let first : ℕ → Bool = λ k. e k && not (h k) in
    let rest : ℕ → Bool = λ k. not (e k) && not (h k) in
    let all : List ℕ = filter (λ k. k == i) xs in
    filter-append (λ k. k == i) (filter first xs ++ filter h xs) (filter rest xs)
    ∙ ap (λ l. l ++ filter (λ k. k == i) (filter rest xs))
    (filter-append (λ k. k == i) (filter first xs) (filter h xs))
    ∙ ap (λ l. (l ++ filter (λ k. k == i) (filter h xs)) ++ filter (λ k. k == i) (filter rest xs))
    (passing first i xs)
    ∙ ap (λ l. (cond (first i) all [] ++ l) ++ filter (λ k. k == i) (filter rest xs)) (passing h i xs)
    ∙ ap (λ l. (cond (first i) all [] ++ cond (h i) all []) ++ l) (passing rest i xs)
    ∙ one_of_three all (e i) (h i)

-- a task's moves at a place are those that the record there makes
pub moves_at_place : (rs : List Record) (task i : ℕ)
    → filter (λ (step : ℕ × Move). step.0 == i) (moves_of rs task) ≡ moves_at rs task i
moves_at_place rs task i =
    of_places rs task i (places_of rs task)
    ∙ ap (flat_map (moves_at rs task))
    (in_three (is_early rs task) (is_on rs (home_of rs task)) i (places rs))
    ∙ whole (cases_lt i (length rs))
  where
    whole : (i < length rs) ⊎ (length rs ≤ i)
        → flat_map (moves_at rs task) (filter (λ k. k == i) (places rs)) ≡ moves_at rs task i
    whole (inl within) =
        ap (flat_map (moves_at rs task))
        (place_once i (length rs) ∙ ap (λ b. cond b (i ∷ []) []) (lt-ltb i (length rs) within))
        ∙ append-nil (moves_at rs task i)
    whole (inr past) =
        ap (flat_map (moves_at rs task))
        (place_once i (length rs) ∙ ap (λ b. cond b (i ∷ []) []) (le-ltb i (length rs) past))
        ∙ sym
        (ap
        (λ (o : Option Record).
        map (λ move. (i, move)) (option_map_or (λ (r : Record). moves_by task r.body) o []))
        (slice_get_past rs i past))
