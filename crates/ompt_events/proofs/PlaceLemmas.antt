-- What stands at a place, and what a loop that reads a record knows of its place.
use Rattle.std.proofs.Common.{sym, ◌≡◌, ℕ, ◌<◌, List, length, get_or, Some, None, Option, refl, ap, zero, suc}
use Rattle.std.proofs.Common.{◌∙◌, ◌+◌, ◌≤◌, [], ◌∷◌, ◌++◌, false, cond, eqb, arith, inl, inr, true, Bool}
use Rattle.std.proofs.Common.{subst}
use Rattle.std.specs.Prelude.{slice_get, option_and_then, option_map, is_some, false, ◌==◌, Contains, sum_by}
use Rattle.std.specs.Prelude.{All, filter, IsSomeAnd}
use Rattle.std.proofs.lemmas.Option.{slice_get_read, slice_get_within, slice_get-get_or, none-some, same_Some}
use Rattle.ompt_events.specs.declared.records.Record.{Record}
use Rattle.ompt_events.specs.declared.records.Body.{Body}
use Rattle.ompt_events.specs.Places.{at, thread_at, places, seen_at, is_own, own_before}
use Rattle.ompt_events.specs.States.{is_task}
use Rattle.std.proofs.lemmas.Bool.{cases_eq, eq-eqb, ne_eqb, eqb-true, false≢true}
use Rattle.std.proofs.lemmas.List.{map-id}
use Rattle.std.proofs.lemmas.List.FromFn.{map-range_with_len_more, length-range_with_len}
use Rattle.std.proofs.lemmas.List.FromFn.{get_or-range_with_len}
use Rattle.std.proofs.lemmas.List.Elements.{Contains-append_right, All-filter, All-contains, filter-append}
use Rattle.std.proofs.lemmas.List.Sums.{sum_by-append, sum_by-cons}
use Rattle.std.proofs.lemmas.List.Sorted.{Contains-permutation, IsPermutation-sym, sum_by-IsPermutation}
use Rattle.std.specs.List.{range_with_len}
use Rattle.std.specs.List.Sorted.{IsPermutation}
use Rattle.std.specs.Option.{option_map_or}

-- the record that was read stands there
pub read_get : (rs : List Record) (i : ℕ) (r : Record) → i < length rs → r ≡ get_or rs i r
    → slice_get rs i ≡ Some r
read_get rs i r within read = slice_get_read rs (length rs) i r refl within read

-- what it says is what its place says
pub at_read : {X : Type 0} (f : Body → Option X) (rs : List Record) (i : ℕ) (r : Record) → i < length rs
    → r ≡ get_or rs i r → at f rs i ≡ f r.body
at_read f rs i r within read = ap (option_and_then (λ (q : Record). f q.body)) (read_get rs i r within read)

pub thread_read : (rs : List Record) (i : ℕ) (r : Record) → i < length rs → r ≡ get_or rs i r
    → thread_at rs i ≡ Some r.thread
thread_read rs i r within read = ap (option_map (λ (q : Record). q.thread)) (read_get rs i r within read)

-- a place where something is said is one of the places
pub at_within : {X : Type 0} (f : Body → Option X) (rs : List Record) (i : ℕ) (x : X) → at f rs i ≡ Some x
    → i < length rs
at_within {X} f rs i x says = at_within_get f rs i x (slice_get rs i) refl says
  where
    at_within_get : {X : Type 0} (f : Body → Option X) (rs : List Record) (i : ℕ) (x : X) (o : Option Record)
        → slice_get rs i ≡ o → option_and_then (λ (q : Record). f q.body) o ≡ Some x → i < length rs
    at_within_get f rs i x None e says = cc
    at_within_get f rs i x (Some r) e says = slice_get_within rs i r e

-- an option that is not `Some` is `None`
pub none_from_test : {X : Type 0} (o : Option X) → is_some o ≡ false → o ≡ None
none_from_test None is = refl
none_from_test (Some x) is = cc

-- the same of a record that is named by its place
pub at_index : {X : Type 0} (f : Body → Option X) (rs : List Record) (i : ℕ) (r : Record) → i < length rs
    → at f rs i ≡ f (get_or rs i r).body
at_index f rs i r within = ap (option_and_then (λ (q : Record). f q.body)) (slice_get-get_or rs i r within)

-- where no thread recorded, nothing is said
pub thread_none : {X : Type 0} (f : Body → Option X) (rs : List Record) (i : ℕ) → thread_at rs i ≡ None
    → at f rs i ≡ None
thread_none {X} f rs i e = no_record f (slice_get rs i) e
  where
    no_record : {X : Type 0} (f : Body → Option X) (o : Option Record)
        → option_map (λ (r : Record). r.thread) o ≡ None → option_and_then (λ (r : Record). f r.body) o ≡ None
    no_record f None e = refl
    no_record f (Some r) e = absurd (none-some r.thread (sym e))

pub thread_index : (rs : List Record) (i : ℕ) (r : Record) → i < length rs
    → thread_at rs i ≡ Some (get_or rs i r).thread
thread_index rs i r within = ap (option_map (λ (q : Record). q.thread)) (slice_get-get_or rs i r within)

-- a place that names a length is one of the places
pub seen_within : (rs : List Record) (i n : ℕ) → n < seen_at rs i → i < length rs
seen_within rs i n less = seen_there (slice_get rs i) refl less
  where
    seen_there : (o : Option Record) → slice_get rs i ≡ o → n < option_map_or (λ (r : Record). r.seen) o 0
        → i < length rs
    seen_there None e less' = absurd (omega arith)
    seen_there (Some r) e less' = slice_get_within rs i r e

-- ---- the places below a number

-- one more place
pub range_more : (n : ℕ) → range_with_len 0 (n + 1) ≡ range_with_len 0 n ++ n ∷ []
range_more n =
    sym (map-id (range_with_len 0 (n + 1))) ∙ map-range_with_len_more (λ (x : ℕ). x) 0 n n (omega arith)
    ∙ ap (λ l. l ++ n ∷ []) (map-id (range_with_len 0 n))

-- each place is among the places, and they are below the end
pub contains_place : (rs : List Record) (i : ℕ) → i < length rs → Contains (places rs) i
contains_place rs i within = (
  i,
  rw (length-range_with_len 0 (length rs)) within,
  get_or-range_with_len 0 (length rs) i i within ∙ omega arith,
)

pub place_below : (rs : List Record) (i : ℕ) → Contains (places rs) i → i < length rs
place_below rs i (k, below, is) =
    let inside : k < length rs = rw (length-range_with_len 0 (length rs)) at below in
    let same : 0 + k ≡ i = sym (get_or-range_with_len 0 (length rs) k i inside) ∙ is in omega arith

-- how often a number is in a list
occ : ℕ → List ℕ → ℕ
occ i [] = 0
occ i (x ∷ xs) = cond {A = ℕ} (x == i) 1 0 + occ i xs

occ_sum : (i : ℕ) (xs : List ℕ) → sum_by (λ x. cond {A = ℕ} (x == i) 1 0) xs ≡ occ i xs
unfolding occ
occ_sum i [] = refl
occ_sum i (x ∷ xs) =
    sum_by-cons (λ y. cond {A = ℕ} (y == i) 1 0) x xs
    ∙ ap (λ n. cond {A = ℕ} (x == i) 1 0 + n) (occ_sum i xs)

-- a number does not occur among greater ones
occurs_not : (a n i : ℕ) → i < a → occ i (range_with_len a n) ≡ 0
unfolding occ
occurs_not a zero i below = refl
occurs_not a (suc n) i below =
    let none : cond {A = ℕ} (eqb a i) 1 0 ≡ 0 =
    ap (λ b. cond {A = ℕ} b 1 0) (ne_eqb a i (λ e. absurd (omega arith))) in
    let rest = occurs_not (a + 1) n i (omega arith) in
    omega (arith, none, rest)

-- each place at most once
occurs_once : (a n i : ℕ) → occ i (range_with_len a n) ≤ 1
unfolding occ
occurs_once a zero i = omega arith
occurs_once a (suc n) i = elim (cases_eq a i) [
  | inl same ↦
      let one : cond {A = ℕ} (eqb a i) 1 0 ≡ 1 = ap (λ b. cond {A = ℕ} b 1 0) (eq-eqb a i same) in
      let none = occurs_not (a + 1) n i (omega arith) in
      omega (arith, one, none)
  | inr apart ↦
      let none : cond {A = ℕ} (eqb a i) 1 0 ≡ 0 = ap (λ b. cond {A = ℕ} b 1 0) (ne_eqb a i apart) in
      let rest = occurs_once (a + 1) n i in
      omega (arith, none, rest)
]

-- what is in a list occurs
occurs : (xs : List ℕ) (i : ℕ) → Contains xs i → 1 ≤ occ i xs
unfolding occ
occurs [] i (k, below, is) = absurd (omega arith)
occurs (x ∷ xs) i (zero, below, is) =
    let one : cond {A = ℕ} (eqb x i) 1 0 ≡ 1 = ap (λ b. cond {A = ℕ} b 1 0) (eq-eqb x i is) in
    omega (arith, one)
occurs (x ∷ xs) i (suc k, below, is) = let rest = occurs xs i (k, omega arith, is) in omega (arith, rest)

-- a list that has all places, and is a part of them, is all of them
pub nothing_left : (rs : List Record) (order left : List ℕ) → IsPermutation (places rs) (order ++ left)
    → ((i : ℕ) → i < length rs → Contains order i) → left ≡ []
nothing_left rs order [] permutation all = refl
nothing_left rs order (i ∷ rest) permutation all =
    let inside =
    place_below rs i
    (Contains-permutation (order ++ i ∷ rest) (places rs) i
    (IsPermutation-sym (places rs) (order ++ i ∷ rest) permutation)
    (Contains-append_right order (i ∷ rest) i (0, omega arith, refl))) in
    let f : ℕ → ℕ = λ x. cond {A = ℕ} (x == i) 1 0 in
    let once : occ i (places rs) ≤ 1 = occurs_once 0 (length rs) i in
    let total : sum_by f (places rs) ≡ occ i (places rs) = occ_sum i (places rs) in
    let same : sum_by f (order ++ i ∷ rest) ≡ sum_by f (places rs) =
    sum_by-IsPermutation f (places rs) (order ++ i ∷ rest) permutation in
    let parts : sum_by f (order ++ i ∷ rest) ≡ sum_by f order + sum_by f (i ∷ rest) =
    sum_by-append f order (i ∷ rest) in
    let front : 1 ≤ occ i order = occurs order i (all i inside) in
    let front_sum : sum_by f order ≡ occ i order = occ_sum i order in
    let back : 1 ≤ occ i (i ∷ rest) = occurs (i ∷ rest) i (0, omega arith, refl) in
    let back_sum : sum_by f (i ∷ rest) ≡ occ i (i ∷ rest) = occ_sum i (i ∷ rest) in
    absurd (omega (arith, once, total, same, parts, front, front_sum, back, back_sum))

-- ---- a task's own records

-- an element at which the test holds is kept
pub Contains-filter : {X : Type 0} (p : X → Bool) (xs : List X) (x : X) → Contains xs x → p x ≡ true
    → Contains (filter p xs) x
Contains-filter p [] x (k, below, is) holds = absurd (omega arith)
Contains-filter p (y ∷ ys) x (zero, below, is) holds = rw (ap p is ∙ holds) (0, omega arith, is)
Contains-filter p (y ∷ ys) x (suc k, below, is) holds =
    after (p y) (Contains-filter p ys x (k, omega arith, is) holds)
  where
    after : (b : Bool) → Contains (filter p ys) x → Contains (cond b (y ∷ filter p ys) (filter p ys)) x
    after true rest = Contains-append_right (y ∷ []) (filter p ys) x rest
    after false rest = rest

-- one more place among a task's own
pub own_more : (rs : List Record) (task n : ℕ)
    → own_before rs task (n + 1) ≡ own_before rs task n ++ cond (is_own rs task n) (n ∷ []) []
own_more rs task n =
    ap (filter (is_own rs task)) (range_more n) ∙ filter-append (is_own rs task) (range_with_len 0 n) (n ∷ [])

-- the records before a place stand at lesser places
pub own_below : (rs : List Record) (task n c : ℕ) → Contains (own_before rs task n) c → c < n
own_below rs task n c own =
    All-contains (λ k. k < n) (own_before rs task n) c
    (All-filter (is_own rs task) (λ k. k < n) (range_with_len 0 n) below) own
  where
    below : All (λ k. k < n) (range_with_len 0 n)
    below k d within =
        let short : k < n = rw (length-range_with_len 0 n) at within in
        rw (get_or-range_with_len 0 n k d short) (omega arith)

pub at_get : {X : Type 0} (f : Body → Option X) (rs : List Record) (i : ℕ) (r : Record)
    → slice_get rs i ≡ Some r → at f rs i ≡ f r.body
at_get f rs i r is = ap (option_and_then (λ (q : Record). f q.body)) is

-- where a record says something, there is one
pub get_at : {X : Type 0} (f : Body → Option X) (rs : List Record) (i : ℕ) (x : X) → at f rs i ≡ Some x
    → (r : Record) × (slice_get rs i ≡ Some r) × (f r.body ≡ Some x)
get_at {X} f rs i x says = of (slice_get rs i) refl says
  where
    of : (o : Option Record) → slice_get rs i ≡ o → option_and_then (λ (q : Record). f q.body) o ≡ Some x
        → (r : Record) × (slice_get rs i ≡ Some r) × (f r.body ≡ Some x)
    of None is says = absurd (none-some x says)
    of (Some r) is says = (r, is, says)

pub thread_get : (rs : List Record) (i : ℕ) (r : Record) → slice_get rs i ≡ Some r
    → thread_at rs i ≡ Some r.thread
thread_get rs i r is = ap (option_map (λ (q : Record). q.thread)) is

pub is_the_task : (task : ℕ) (found : Option ℕ) → is_task task found ≡ true → found ≡ Some task
is_the_task task None is = absurd (false≢true is)
is_the_task task (Some other) is = ap Some (eqb-true other task is)

pub the_task : (task : ℕ) (found : Option ℕ) → found ≡ Some task → is_task task found ≡ true
the_task task found is = ap (is_task task) is ∙ eq-eqb task task refl

pub some_and : {X : Type 0} (o : Option X) (P : X → Type 0) → IsSomeAnd o P → (x : X) × (o ≡ Some x) × P x
some_and None P h = absurd h
some_and (Some x) P h = (x, refl, h)

pub and_some : {X : Type 0} (o : Option X) (P : X → Type 0) (x : X) → o ≡ Some x → P x → IsSomeAnd o P
and_some None P x e h = absurd (none-some x e)
and_some (Some y) P x e h = let Q = P in subst Q (sym (same_Some y x e)) h

pub some_of : {X : Type 0} (o : Option X) → is_some o ≡ true → (x : X) × (o ≡ Some x)
some_of None e = absurd (false≢true e)
some_of (Some x) e = (x, refl)

pub some_within : {X : Type 0} (f : Body → Option X) (rs : List Record) (i : ℕ) → is_some (at f rs i) ≡ true
    → i < length rs
some_within {X} f rs i some = by (at f rs i) refl some
  where
    by : (o : Option X) → at f rs i ≡ o → is_some o ≡ true → i < length rs
    by None e is = cc
    by (Some x) e is = at_within f rs i x e
