-- Lists of what threads did: the place of the element with a number in its thread, and the number of the
-- element at a place.
use Rattle.std.proofs.Common.{ℕ, zero, suc, ◌≡◌, ◌∙◌, ◌<◌, List, [], ◌∷◌, length, take, Option, Some, Bool}
use Rattle.std.proofs.Common.{true, false, cond, refl, sym, ap, arith, inl, inr}
use Rattle.std.specs.Prelude.{◌==◌, slice_get, filter}
use Rattle.std.proofs.lemmas.Bool.{cases_Bool, cases_lt, cases_eq, eq-eqb, eqb-true, false≢true}
use Rattle.std.specs.Option.{option_map_or}
use Rattle.std.proofs.lemmas.Option.{none-some, same_Some, slice_get_within}
use Rattle.ompt_events.proofs.ListLemmas.{get_within}

-- whether the element is of the thread
abbrev pub is_of : {X : Type 0} → (X → ℕ) → ℕ → X → Bool
is_of thread_of thread x = thread_of x == thread

-- how many elements of the thread stand before the place
abbrev pub number_at : {X : Type 0} → (X → ℕ) → List X → ℕ → ℕ → ℕ
number_at thread_of xs thread i = length (filter (is_of thread_of thread) (take i xs))

abbrev place_next : Bool → ℕ → (ℕ → ℕ) → ℕ
place_next true zero rest = 0
place_next true (suc k) rest = suc (rest k)
place_next false k rest = suc (rest k)

-- the place of the element of the thread with this number
abbrev pub place_of : {X : Type 0} → (X → ℕ) → List X → ℕ → ℕ → ℕ
place_of thread_of [] thread k = 0
place_of thread_of (x ∷ xs) thread k =
    place_next (thread_of x == thread) k (place_of thread_of xs thread)

-- an element stands at the place of its number
pub place_of_number : {X : Type 0} (thread_of : X → ℕ) (xs : List X) (thread i : ℕ) (x : X)
    → slice_get xs i ≡ Some x → thread_of x ≡ thread
    → place_of thread_of xs thread (number_at thread_of xs thread i) ≡ i
place_of_number {X} thread_of [] thread i x is of = absurd (none-some x is)
place_of_number {X} thread_of (y ∷ ys) thread zero x is of =
    ap (λ b. place_next b 0 (place_of thread_of ys thread))
    (eq-eqb (thread_of y) thread (ap thread_of (same_Some y x is) ∙ of))
place_of_number {X} thread_of (y ∷ ys) thread (suc i) x is of =
    by (thread_of y == thread) ∙ ap suc (place_of_number thread_of ys thread i x is of)
  where
    rest : List X
    rest = filter (is_of thread_of thread) (take i ys)

    by : (b : Bool) → place_next b (length (cond b (y ∷ rest) rest)) (place_of thread_of ys thread)
        ≡ suc (place_of thread_of ys thread (length rest))
    by true = refl
    by false = refl

-- what stands at the place of a number
pub record HasPlace {X : Type 0} (thread_of : X → ℕ) (xs : List X) (thread k : ℕ) (x : X) : Type 0 where
  pub stands : slice_get xs (place_of thread_of xs thread k) ≡ Some x
  pub of_thread : thread_of x ≡ thread
  pub number : number_at thread_of xs thread (place_of thread_of xs thread k) ≡ k

pub place_there : {X : Type 0} (thread_of : X → ℕ) (xs : List X) (thread k : ℕ) (x : X)
    → slice_get (filter (is_of thread_of thread) xs) k ≡ Some x → HasPlace thread_of xs thread k x
place_there {X} thread_of [] thread k x is = absurd (none-some x is)
place_there {X} thread_of (y ∷ ys) thread k x is = elim (cases_Bool (thread_of y == thread)) [
  | inl own ↦
      here k (λ n. place_there thread_of ys thread n x) own
      (ap (λ b. slice_get (cond b (y ∷ rest) rest) k) (sym own) ∙ is)
  | inr other ↦
      let next = place_there thread_of ys thread k x
      (ap (λ b. slice_get (cond b (y ∷ rest) rest) k) (sym other) ∙ is) in
      let place : place_of thread_of (y ∷ ys) thread k ≡ suc (place_of thread_of ys thread k) =
      ap (λ b. place_next b k (place_of thread_of ys thread)) other in
      record {
        stands = ap (slice_get (y ∷ ys)) place ∙ next.stands;
        of_thread = next.of_thread;
        number =
            ap (number_at thread_of (y ∷ ys) thread) place
            ∙ ap
            (λ b. length (cond b (y ∷ before (place_of thread_of ys thread k))
            (before (place_of thread_of ys thread k)))) other
            ∙ next.number;
      }
]
  where
    rest : List X
    rest = filter (is_of thread_of thread) ys

    before : ℕ → List X
    before i = filter (is_of thread_of thread) (take i ys)

    here : (n : ℕ) → ((m : ℕ) → slice_get rest m ≡ Some x → HasPlace thread_of ys thread m x)
        → (thread_of y == thread) ≡ true → slice_get (y ∷ rest) n ≡ Some x
        → HasPlace thread_of (y ∷ ys) thread n x
    here zero later own is =
        let place : place_of thread_of (y ∷ ys) thread 0 ≡ 0 =
        ap (λ b. place_next b 0 (place_of thread_of ys thread)) own in
        record {
          stands = ap (slice_get (y ∷ ys)) place ∙ is;
          of_thread = ap thread_of (sym (same_Some y x is)) ∙ eqb-true (thread_of y) thread own;
          number = ap (number_at thread_of (y ∷ ys) thread) place;
        }
    here (suc n) later own is =
        let next = later n is in
        let place : place_of thread_of (y ∷ ys) thread (suc n) ≡ suc (place_of thread_of ys thread n) =
        ap (λ b. place_next b (suc n) (place_of thread_of ys thread)) own in
        record {
          stands = ap (slice_get (y ∷ ys)) place ∙ next.stands;
          of_thread = next.of_thread;
          number =
              ap (number_at thread_of (y ∷ ys) thread) place
              ∙ ap
              (λ b. length (cond b (y ∷ before (place_of thread_of ys thread n))
              (before (place_of thread_of ys thread n)))) own
              ∙ ap suc next.number;
        }

-- an element has its number among those of its thread
pub number_there : {X : Type 0} (thread_of : X → ℕ) (xs : List X) (thread i : ℕ) (x : X)
    → slice_get xs i ≡ Some x → thread_of x ≡ thread
    → slice_get (filter (is_of thread_of thread) xs) (number_at thread_of xs thread i) ≡ Some x
number_there {X} thread_of [] thread i x is of = absurd (none-some x is)
number_there {X} thread_of (y ∷ ys) thread zero x is of =
    ap (λ b. slice_get (cond b (y ∷ rest) rest) 0)
    (eq-eqb (thread_of y) thread (ap thread_of (same_Some y x is) ∙ of)) ∙ is
  where
    rest : List X
    rest = filter (is_of thread_of thread) ys
number_there {X} thread_of (y ∷ ys) thread (suc i) x is of =
    by (thread_of y == thread) ∙ number_there thread_of ys thread i x is of
  where
    rest : List X
    rest = filter (is_of thread_of thread) ys

    before : List X
    before = filter (is_of thread_of thread) (take i ys)

    by : (b : Bool) → slice_get (cond b (y ∷ rest) rest) (length (cond b (y ∷ before) before))
        ≡ slice_get rest (length before)
    by true = refl
    by false = refl

-- those before a place are the first of their thread
pub before_is : {X : Type 0} (thread_of : X → ℕ) (xs : List X) (thread i : ℕ)
    → filter (is_of thread_of thread) (take i xs)
    ≡ take (number_at thread_of xs thread i) (filter (is_of thread_of thread) xs)
before_is {X} thread_of [] thread zero = refl
before_is {X} thread_of [] thread (suc i) = refl
before_is {X} thread_of (y ∷ ys) thread zero = refl
before_is {X} thread_of (y ∷ ys) thread (suc i) =
    by (thread_of y == thread) (before_is thread_of ys thread i)
  where
    rest : List X
    rest = filter (is_of thread_of thread) ys

    before : List X
    before = filter (is_of thread_of thread) (take i ys)

    by : (b : Bool) → before ≡ take (length before) rest
        → cond b (y ∷ before) before ≡ take (length (cond b (y ∷ before) before)) (cond b (y ∷ rest) rest)
    by true is = ap (λ l. y ∷ l) is
    by false is = is

-- of two elements of a thread the later one has the greater number
pub number_rises : {X : Type 0} (thread_of : X → ℕ) (xs : List X) (thread i j : ℕ) (x : X)
    → slice_get xs i ≡ Some x → thread_of x ≡ thread → i < j
    → number_at thread_of xs thread i < number_at thread_of xs thread j
number_rises {X} thread_of [] thread i j x is of less = absurd (none-some x is)
number_rises {X} thread_of (y ∷ ys) thread i zero x is of less = absurd (omega arith)
number_rises {X} thread_of (y ∷ ys) thread zero (suc j) x is of less =
    by (thread_of y == thread) (eq-eqb (thread_of y) thread (ap thread_of (same_Some y x is) ∙ of))
  where
    before : List X
    before = filter (is_of thread_of thread) (take j ys)

    by : (b : Bool) → b ≡ true → 0 < length (cond b (y ∷ before) before)
    by true own = omega arith
    by false own = absurd (false≢true own)
number_rises {X} thread_of (y ∷ ys) thread (suc i) (suc j) x is of less =
    by (thread_of y == thread) (number_rises thread_of ys thread i j x is of (omega arith))
  where
    first : List X
    first = filter (is_of thread_of thread) (take i ys)

    second : List X
    second = filter (is_of thread_of thread) (take j ys)

    by : (b : Bool) → length first < length second
        → length (cond b (y ∷ first) first) < length (cond b (y ∷ second) second)
    by true rises = omega arith
    by false rises = rises

-- and back: the greater number is later
pub place_rises : {X : Type 0} (thread_of : X → ℕ) (xs : List X) (thread i j : ℕ) (x y : X)
    → slice_get xs i ≡ Some x → thread_of x ≡ thread → slice_get xs j ≡ Some y → thread_of y ≡ thread
    → number_at thread_of xs thread i < number_at thread_of xs thread j → i < j
place_rises thread_of xs thread i j x y at_i of_x at_j of_y less = elim (cases_lt i j) [
  | inl below ↦ below
  | inr from ↦ elim (cases_eq i j) [
    | inl same ↦ absurd (omega (arith, less, ap (number_at thread_of xs thread) same))
    | inr apart ↦
        let more = number_rises thread_of xs thread j i y at_j of_y (omega (arith, from, apart)) in
        absurd (omega (arith, less, more))
  ]
]

-- ---- two lists with as many elements of each thread

-- where the element at a place of the first list stands in the second one: it has the same number in its
-- thread
abbrev pub moved_to : {X Y : Type 0} → (X → ℕ) → List X → (Y → ℕ) → List Y → ℕ → ℕ
moved_to {X} first_of xs second_of ys i =
    option_map_or (λ (x : X). place_of second_of ys (first_of x) (number_at first_of xs (first_of x) i))
    (slice_get xs i) 0

abbrev pub AreAsMany : {X Y : Type 0} → (X → ℕ) → List X → (Y → ℕ) → List Y → Type 0
AreAsMany first_of xs second_of ys =
    (thread : ℕ)
    → length (filter (is_of first_of thread) xs) ≡ length (filter (is_of second_of thread) ys)

pub record IsMovedTo {X Y : Type 0} (first_of : X → ℕ) (xs : List X) (second_of : Y → ℕ) (ys : List Y)
    (i : ℕ) (x : X) : Type 0 where
  pub there : Y
  pub stands : slice_get ys (moved_to first_of xs second_of ys i) ≡ Some there
  pub of_thread : second_of there ≡ first_of x
  pub number : number_at second_of ys (first_of x) (moved_to first_of xs second_of ys i)
      ≡ number_at first_of xs (first_of x) i
  pub back : moved_to second_of ys first_of xs (moved_to first_of xs second_of ys i) ≡ i

pub moved : {X Y : Type 0} (first_of : X → ℕ) (xs : List X) (second_of : Y → ℕ) (ys : List Y) (i : ℕ) (x : X)
    → AreAsMany first_of xs second_of ys → slice_get xs i ≡ Some x → IsMovedTo first_of xs second_of ys i x
moved {X} {Y} first_of xs second_of ys i x many is = record {
  there = y;
  stands = stands;
  of_thread = has.of_thread;
  number = ap (number_at second_of ys (first_of x)) here ∙ has.number;
  back =
      ap (λ (o : Option Y). option_map_or (λ (z : Y). place_of first_of xs (second_of z)
      (number_at second_of ys (second_of z) (moved_to first_of xs second_of ys i))) o 0) stands
      ∙ ap (λ t. place_of first_of xs t (number_at second_of ys t (moved_to first_of xs second_of ys i)))
      has.of_thread
      ∙ ap (λ p. place_of first_of xs (first_of x) (number_at second_of ys (first_of x) p)) here
      ∙ ap (place_of first_of xs (first_of x)) has.number
      ∙ place_of_number first_of xs (first_of x) i x is refl;
}
  where
    number : ℕ
    number = number_at first_of xs (first_of x) i

    own : List Y
    own = filter (is_of second_of (first_of x)) ys

    inside : number < length own
    inside =
        let within =
        slice_get_within (filter (is_of first_of (first_of x)) xs) number x
        (number_there first_of xs (first_of x) i x is refl) in
        let same = many (first_of x) in
        omega (arith, within, same)

    y : Y
    y = (get_within own number inside).0

    has : HasPlace second_of ys (first_of x) number y
    has = place_there second_of ys (first_of x) number y (get_within own number inside).1

    here : moved_to first_of xs second_of ys i ≡ place_of second_of ys (first_of x) number
    here =
        ap (λ (o : Option X). option_map_or (λ (z : X). place_of second_of ys (first_of z)
        (number_at first_of xs (first_of z) i)) o 0) is

    stands : slice_get ys (moved_to first_of xs second_of ys i) ≡ Some y
    stands = ap (slice_get ys) here ∙ has.stands
