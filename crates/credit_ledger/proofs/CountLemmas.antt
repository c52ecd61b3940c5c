-- How many numbers pass a test.
use Rattle.std.proofs.Common.{◌≡◌, ◌≢◌, ℕ, zero, suc, ◌+◌, ◌<◌, ◌≤◌, Bool, true, false, refl, sym, ◌∙◌, ap}
use Rattle.std.proofs.Common.{arith, ⊎_elim}
use Rattle.std.proofs.lemmas.Bool.{cases_Bool, cases_eq, cases_lt}
use Rattle.credit_ledger.specs.Trees.{count_below}
use Rattle.credit_ledger.proofs.HalvedLemmas.{ones}

one_of : (b : Bool) → ones b ≤ 1
one_of true = omega arith
one_of false = omega arith

pub count_below-le : (bound : ℕ) (test : ℕ → Bool) → count_below bound test ≤ bound
count_below-le zero test = omega arith
count_below-le (suc bound) test = omega (arith, one_of (test bound), count_below-le bound test)

pub count_below-same : (bound : ℕ) (test other : ℕ → Bool) → ((n : ℕ) → n < bound → test n ≡ other n)
    → count_below bound test ≡ count_below bound other
count_below-same zero test other same = refl
count_below-same (suc bound) test other same =
    let here : ones (test bound) ≡ ones (other bound) = ap ones (same bound (omega arith)) in
    let rest = count_below-same bound test other (λ n less. same n (omega arith)) in
    omega (arith, here, rest)

-- one more passes
pub count_below-more : (bound : ℕ) (test other : ℕ → Bool) (k : ℕ) → k < bound → test k ≡ false
    → other k ≡ true → ((n : ℕ) → n ≢ k → test n ≡ other n)
    → count_below bound other ≡ count_below bound test + 1
count_below-more zero test other k less off on same = absurd (omega arith)
count_below-more (suc bound) test other k less off on same =
    ⊎_elim
    (λ (e : k ≡ bound).
    let was : ones (test bound) ≡ 0 = ap ones (ap test (sym e) ∙ off) in
    let is : ones (other bound) ≡ 1 = ap ones (ap other (sym e) ∙ on) in
    let rest = count_below-same bound test other (λ n below. same n (omega arith)) in
    omega (arith, was, is, rest))
    (λ (ne : k ≢ bound).
    let here : ones (test bound) ≡ ones (other bound) = ap ones (same bound (λ e. ne (sym e))) in
    let rest = count_below-more bound test other k (omega arith) off on same in
    omega (arith, here, rest))
    (cases_eq k bound)

-- as many pass as there are below a number, and all that pass are below it: each below it passes
pub count_below-all : (bound l : ℕ) (test : ℕ → Bool) → l ≤ bound → ((n : ℕ) → test n ≡ true → n < l)
    → count_below bound test ≡ l → (j : ℕ) → j < l → test j ≡ true
count_below-all zero l test less below e j small = absurd (omega arith)
count_below-all (suc bound) l test less below e j small =
    ⊎_elim
    (λ (yes : test bound ≡ true).
    let one : ones (test bound) ≡ 1 = ap ones yes in
    let top = below bound yes in
    ⊎_elim
    (λ (same : j ≡ bound). ap test same ∙ yes)
    (λ (ne : j ≢ bound).
    all_below bound test (omega (arith, one, top, count_below-le bound test)) j (omega arith))
    (cases_eq j bound))
    (λ (off : test bound ≡ false).
    let none : ones (test bound) ≡ 0 = ap ones off in
    let rest : count_below bound test ≡ l = omega (arith, none) in
    let fits : l ≤ bound = omega (arith, rest, count_below-le bound test) in
    count_below-all bound l test fits below rest j small)
    (cases_Bool (test bound))
  where
    all_below : (bound : ℕ) (test : ℕ → Bool) → count_below bound test ≡ bound → (j : ℕ) → j < bound
        → test j ≡ true
    all_below zero test e j less = absurd (omega arith)
    all_below (suc bound) test e j less =
        ⊎_elim
        (λ (yes : test bound ≡ true).
        let one : ones (test bound) ≡ 1 = ap ones yes in
        ⊎_elim (λ (same : j ≡ bound). ap test same ∙ yes)
        (λ (ne : j ≢ bound). all_below bound test (omega (arith, one)) j (omega arith)) (cases_eq j bound))
        (λ (off : test bound ≡ false).
        let none : ones (test bound) ≡ 0 = ap ones off in
        absurd (omega (arith, none, count_below-le bound test)))
        (cases_Bool (test bound))

-- and the other way round
pub count_below-full : (bound l : ℕ) (test : ℕ → Bool) → l ≤ bound → ((n : ℕ) → test n ≡ true → n < l)
    → ((j : ℕ) → j < l → test j ≡ true) → count_below bound test ≡ l
count_below-full zero l test less below all = omega arith
count_below-full (suc bound) l test less below all =
    ⊎_elim
    (λ (top : bound < l).
    let one : ones (test bound) ≡ 1 = ap ones (all bound top) in
    let rest = full_below bound test (λ j small. all j (omega arith)) in
    omega (arith, one, rest))
    (λ (past : l ≤ bound).
    let off : test bound ≡ false =
    ⊎_elim (λ (yes : test bound ≡ true). absurd (let b = below bound yes in omega arith)) (λ off. off)
    (cases_Bool (test bound)) in
    let none : ones (test bound) ≡ 0 = ap ones off in
    let rest = count_below-full bound l test past below all in
    omega (arith, none, rest))
    (cases_lt bound l)
  where
    full_below : (bound : ℕ) (test : ℕ → Bool) → ((j : ℕ) → j < bound → test j ≡ true)
        → count_below bound test ≡ bound
    full_below zero test all = refl
    full_below (suc bound) test all =
        let one : ones (test bound) ≡ 1 = ap ones (all bound (omega arith)) in
        omega (arith, one, full_below bound test (λ j small. all j (omega arith)))
