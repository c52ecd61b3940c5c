-- Groups of tasks that use one location, and their counts.
use Rattle.std.proofs.Common.{◌≡◌, ◌≢◌, ◌∙◌, ℕ, ◌≤◌, ◌+◌, ◌⊎◌, Bool, true, false, zero, suc}
use Rattle.std.proofs.Common.{List, [], ◌∷◌, ◌++◌, length, Option, Some, refl, sym, ap, subst, arith}
use Rattle.std.proofs.Common.{inl, inr}
use Rattle.std.specs.Prelude.{if◌then◌else◌, ◌==◌, Contains, cond, IfSome}
use Rattle.std.proofs.lemmas.Bool.{cases_eq, eq-eqb, ne_eqb, eqb-true}
use Rattle.std.proofs.lemmas.List.Elements.{Contains-append_left, Contains-append_right}
use Rattle.online.specs.declared.groups.Group.{Group}
use Rattle.online.specs.Groups.{IsOver, Grouping, put, AreCounted, times, without}

-- ---- functions with another value at one number

pub put_here : {X : Type 0} (f : ℕ → X) (n : ℕ) (x : X) (q : ℕ) → n ≡ q → put f n x q ≡ x
put_here {X} f n x q is = ap (λ (b : Bool). cond {A = X} b x (f q)) (eq-eqb n q is)

pub put_apart : {X : Type 0} (f : ℕ → X) (n : ℕ) (x : X) (q : ℕ) → n ≢ q → put f n x q ≡ f q
put_apart {X} f n x q apart = ap (λ (b : Bool). cond {A = X} b x (f q)) (ne_eqb n q apart)

pub put_over : {X : Type 0} (f g : ℕ → X) (n : ℕ) (x : X) (q : ℕ) → f q ≡ g q → put f n x q ≡ put g n x q
put_over {X} f g n x q is = ap (λ (y : X). cond {A = X} (n == q) x y) is

pub put_twice : {X : Type 0} (f g : ℕ → X) (n : ℕ) (x y : X) (q : ℕ) → g q ≡ put f n x q
    → put g n y q ≡ put f n y q
put_twice f g n x y q is = elim (cases_eq n q) [
  | inl same ↦ put_here g n y q same ∙ sym (put_here f n y q same)
  | inr apart ↦
      put_apart g n y q apart ∙ is ∙ put_apart f n x q apart ∙ sym (put_apart f n y q apart)
]

-- what is at a number of the changed function is new, or was there
pub put_cases : {X : Type 0} (f g : ℕ → Option X) (n : ℕ) (w : Option X) → ((q : ℕ) → g q ≡ put f n w q)
    → (q : ℕ) (x : X) → g q ≡ Some x → ((n ≡ q) × (w ≡ Some x)) ⊎ ((n ≢ q) × (f q ≡ Some x))
put_cases f g n w is q x here = elim (cases_eq n q) [
  | inl same ↦ inl (same, sym (is q ∙ put_here f n w q same) ∙ here)
  | inr apart ↦ inr (apart, sym (is q ∙ put_apart f n w q apart) ∙ here)
]

-- what a clause says of the value in a `Some`
pub some_says : {X : Type 0} (P : X → Type 0) (o : Option X) (x : X) → o ≡ Some x → IfSome o P → P x
some_says {X} P o x is says = subst (λ (q : Option X). IfSome q P) is says

-- ---- lists of tasks

pub contains_cons : {X : Type 0} (x y : X) (xs : List X) → Contains (x ∷ xs) y → (x ≡ y) ⊎ Contains xs y
contains_cons x y xs (zero, low, is) = inl is
contains_cons x y xs (suc k, low, is) = inr (k, omega (arith, low), is)

pub contains_later : {X : Type 0} (x y : X) (xs : List X) → Contains xs y → Contains (x ∷ xs) y
contains_later x y xs has = Contains-append_right (x ∷ []) xs y has

pub contains_here : {X : Type 0} (x y : X) (xs : List X) → x ≡ y → Contains (x ∷ xs) y
contains_here x y xs is = (0, omega arith, is)

pub contains_none : {X : Type 0} (y : X) → Contains [] y → ⊥
contains_none y (k, low, is) = omega (arith, low)

pub length-without : (n : ℕ) (xs : List ℕ) → Contains xs n → length (without n xs) + 1 ≡ length xs
length-without n [] has = absurd (contains_none n has)
length-without n (x ∷ xs) has = of (x == n) refl (contains_cons x n xs has) (length-without n xs)
  where
    of : (b : Bool) → (x == n) ≡ b → (x ≡ n) ⊎ Contains xs n
        → (Contains xs n → length (without n xs) + 1 ≡ length xs)
        → length (if b then xs else x ∷ without n xs) + 1 ≡ length (x ∷ xs)
    of true is where_it_is rest = omega arith
    of false is (inl same) rest = absurd (cc (eq-eqb x n same))
    of false is (inr later) rest = let e = rest later in omega (arith, e)

pub contains-without : (n t : ℕ) (xs : List ℕ) → n ≢ t → Contains xs t → Contains (without n xs) t
contains-without n t [] apart has = has
contains-without n t (x ∷ xs) apart has =
    of (x == n) refl (contains_cons x t xs has) (contains-without n t xs apart)
  where
    of : (b : Bool) → (x == n) ≡ b → (x ≡ t) ⊎ Contains xs t → (Contains xs t → Contains (without n xs) t)
        → Contains (if b then xs else x ∷ without n xs) t
    of true is (inl same) rest = absurd (apart (sym (eqb-true x n is) ∙ same))
    of true is (inr later) rest = later
    of false is (inl same) rest = contains_here x t (without n xs) same
    of false is (inr later) rest = contains_later x t (without n xs) (rest later)

-- ---- how often a number is in a list

pub times_more : (n x : ℕ) (xs : List ℕ) → n ≡ x → times n (x ∷ xs) ≡ times n xs + 1
times_more n x xs is = ap (λ (b : Bool). cond {A = ℕ} b (times n xs + 1) (times n xs)) (eq-eqb x n (sym is))

pub times_same : (n x : ℕ) (xs : List ℕ) → n ≢ x → times n (x ∷ xs) ≡ times n xs
times_same n x xs apart =
    ap (λ (b : Bool). cond {A = ℕ} b (times n xs + 1) (times n xs)) (ne_eqb x n (λ e. apart (sym e)))

pub times_push : (n x : ℕ) (xs : List ℕ) → times n (xs ++ x ∷ []) ≡ times n (x ∷ xs)
times_push n x [] = refl
times_push n x (y ∷ ys) = of (y == n) (x == n) (times_push n x ys)
  where
    of : (a b : Bool) → times n (ys ++ x ∷ []) ≡ cond {A = ℕ} b (times n ys + 1) (times n ys)
        → cond {A = ℕ} a (times n (ys ++ x ∷ []) + 1) (times n (ys ++ x ∷ []))
        ≡ cond {A = ℕ} b (cond {A = ℕ} a (times n ys + 1) (times n ys) + 1)
        (cond {A = ℕ} a (times n ys + 1) (times n ys))
    of true true e = omega (arith, e)
    of true false e = omega (arith, e)
    of false true e = omega (arith, e)
    of false false e = omega (arith, e)

pub times_contains : (n : ℕ) (xs : List ℕ) → 1 ≤ times n xs → Contains xs n
times_contains n [] some = absurd (omega (arith, some))
times_contains n (x ∷ xs) some = elim (cases_eq x n) [
  | inl same ↦ contains_here x n xs same
  | inr apart ↦
      let e = times_same n x xs (λ is. apart (sym is)) in
      contains_later x n xs (times_contains n xs (omega (arith, e, some)))
]

pub times-without : (n t : ℕ) (xs : List ℕ) → n ≢ t → times t (without n xs) ≡ times t xs
times-without n t [] apart = refl
times-without n t (x ∷ xs) apart = of (x == n) refl (times-without n t xs apart)
  where
    of : (b : Bool) → (x == n) ≡ b → times t (without n xs) ≡ times t xs
        → times t (if b then xs else x ∷ without n xs) ≡ times t (x ∷ xs)
    of true is rest = sym (times_same t x xs (λ e. apart (sym (eqb-true x n is) ∙ sym e)))
    of false is rest = ap (λ (m : ℕ). if x == t then m + 1 else m) rest

pub times-without_one : (n : ℕ) (xs : List ℕ) → times n xs ≤ times n (without n xs) + 1
times-without_one n [] = omega arith
times-without_one n (x ∷ xs) = of (x == n) refl (times-without_one n xs)
  where
    of : (b : Bool) → (x == n) ≡ b → times n xs ≤ times n (without n xs) + 1
        → (if b then times n xs + 1 else times n xs) ≤ times n (if b then xs else x ∷ without n xs) + 1
    of true is rest = omega arith
    of false is rest = let e = times_same n x (without n xs) (λ s. absurd (cc (eq-eqb x n (sym s)))) in
        omega (arith, e, rest)

-- ---- completeness by a length

pub over_more : (ends : List (ℕ × ℕ)) (task low high : ℕ) → low ≤ high → IsOver ends task low
    → IsOver ends task high
over_more ends task low high less (end, has, most) = (end, has, omega (arith, less, most))

pub over_later : (ends : List (ℕ × ℕ)) (e : ℕ × ℕ) (task limit : ℕ) → IsOver ends task limit
    → IsOver (ends ++ e ∷ []) task limit
over_later ends e task limit (end, has, most) = (
  end,
  Contains-append_left ends (e ∷ []) (task, end) has,
  most,
)

pub counted_later : (ends : List (ℕ × ℕ)) (e : ℕ × ℕ) (all : Grouping) (groups : ℕ → Option Group) (next : ℕ)
    → AreCounted ends all groups next → AreCounted (ends ++ e ∷ []) all groups next
counted_later ends e all groups next are = record {
  counted = are.counted;
  finished = λ n g task here has. of_end g.greatest task (are.finished n g task here has);
  chained = λ n g task here has. elim (are.chained n g task here has) [
    | inl over ↦ inl (over_later ends e task g.floor over)
    | inr up ↦ inr up
  ];
  known = are.known;
  known_before = are.known_before;
}
  where
    of_end : {A : Type 0} (limit task : ℕ) → A ⊎ IsOver ends task limit
        → A ⊎ IsOver (ends ++ e ∷ []) task limit
    of_end limit task (inl is) = inl is
    of_end limit task (inr over) = inr (over_later ends e task limit over)
