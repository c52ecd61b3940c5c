-- What lists of halves begin with.
use Rattle.std.proofs.Common.{◌≡◌, ℕ, ◌+◌, ◌<◌, ◌≤◌, Bool, true, cond, List, [], ◌∷◌, ◌++◌, length, refl, sym}
use Rattle.std.proofs.Common.{◌∙◌, ap, arith, ⊎_elim}
use Rattle.std.specs.List.{list_any, AllByRecursion as ByRecursion}
use Rattle.std.specs.Prelude.{count_by}
use Rattle.std.proofs.lemmas.List.Sums.{sum_by-cons}
use Rattle.std.proofs.lemmas.Bool.{and_parts, and_from, false≢true, or_cases, or_left, or_right}
use Rattle.credit_ledger.specs.declared.share.Half.{Half}
use Rattle.credit_ledger.specs.declared.share.Half.TheVariants.{Keep, Give}
use Rattle.credit_ledger.specs.Shares.{is_same_half, begins_with, keep_half, give_half}

pub is_same_half-itself : (h : Half) → is_same_half h h ≡ true
is_same_half-itself Keep = refl
is_same_half-itself Give = refl

pub same_half : (g h : Half) → is_same_half g h ≡ true → g ≡ h
same_half Keep Keep e = refl
same_half Give Give e = refl
same_half Keep Give e = cc
same_half Give Keep e = cc

pub begins_with-itself : (s : List Half) → begins_with s s ≡ true
begins_with-itself [] = refl
begins_with-itself (h ∷ s) = and_from _ _ (is_same_half-itself h) (begins_with-itself s)

-- what stands behind changes nothing
pub begins_with-append : (l x s : List Half) → begins_with l s ≡ true → begins_with (l ++ x) s ≡ true
begins_with-append l x [] e = refl
begins_with-append [] x (h ∷ s) e = cc
begins_with-append (g ∷ l) x (h ∷ s) e =
    let parts = and_parts (is_same_half g h) (begins_with l s) e in
    and_from _ _ parts.0 (begins_with-append l x s parts.1)

pub begins_with-longer : (s x : List Half) → begins_with (s ++ x) s ≡ true
begins_with-longer s x = begins_with-append s x s (begins_with-itself s)

pub begins_with_through : (l s t : List Half) → begins_with l s ≡ true → begins_with s t ≡ true
    → begins_with l t ≡ true
begins_with_through l s [] e f = refl
begins_with_through l [] (h ∷ t) e f = cc
begins_with_through [] (g ∷ s) (h ∷ t) e f = cc
begins_with_through (k ∷ l) (g ∷ s) (h ∷ t) e f =
    let upper = and_parts (is_same_half k g) (begins_with l s) e in
    let lower = and_parts (is_same_half g h) (begins_with s t) f in
    and_from _ _
    (ap (λ x. is_same_half k x) (sym (same_half g h lower.0)) ∙ upper.0)
    (begins_with_through l s t upper.1 lower.1)

pub length-begins_with : (l s : List Half) → begins_with l s ≡ true → length s ≤ length l
length-begins_with l [] e = omega arith
length-begins_with [] (h ∷ s) e = absurd (false≢true e)
length-begins_with (g ∷ l) (h ∷ s) e =
    let parts = and_parts (is_same_half g h) (begins_with l s) e in
    let shorter = length-begins_with l s parts.1 in omega arith

-- 1 where the test is true
abbrev pub ones : Bool → ℕ
ones b = cond b 1 0

-- a longer list that begins with s goes on with one of its two halves
pub begins_with-halves : (l s : List Half) → length s < length l
    → ones (begins_with l (keep_half s)) + ones (begins_with l (give_half s)) ≡ ones (begins_with l s)
begins_with-halves [] s longer = absurd (omega arith)
begins_with-halves (Keep ∷ l) [] longer = refl
begins_with-halves (Give ∷ l) [] longer = refl
begins_with-halves (Keep ∷ l) (Keep ∷ s) longer = begins_with-halves l s (omega arith)
begins_with-halves (Give ∷ l) (Give ∷ s) longer = begins_with-halves l s (omega arith)
begins_with-halves (Keep ∷ l) (Give ∷ s) longer = refl
begins_with-halves (Give ∷ l) (Keep ∷ s) longer = refl

pub is_same_half-swap : (g h : Half) → is_same_half g h ≡ is_same_half h g
is_same_half-swap Keep Keep = refl
is_same_half-swap Keep Give = refl
is_same_half-swap Give Keep = refl
is_same_half-swap Give Give = refl

-- a list with an element that passes has at least one of them
pub count_by-some : {X : Type 0} (p : X → Bool) (xs : List X) → list_any p xs ≡ true → 1 ≤ count_by p xs
count_by-some p [] h = absurd (false≢true h)
count_by-some p (x ∷ xs) h =
    ⊎_elim
    (λ (here : p x ≡ true).
    let first : ones (p x) ≡ 1 = ap ones here in
    omega (arith, first, sum_by-cons (λ s. ones (p s)) x xs))
    (λ (there : list_any p xs ≡ true).
    omega (arith, count_by-some p xs there, sum_by-cons (λ s. ones (p s)) x xs))
    (or_cases (p x) (list_any p xs) h)

-- what passes one test passes the other
pub list_any_weaker : {X : Type 0} (p q : X → Bool) → ((x : X) → p x ≡ true → q x ≡ true) → (xs : List X)
    → list_any p xs ≡ true → list_any q xs ≡ true
list_any_weaker p q weaker [] h = h
list_any_weaker p q weaker (x ∷ xs) h =
    ⊎_elim (λ here. or_left _ _ (weaker x here))
    (λ there. or_right (q x) _ (list_any_weaker p q weaker xs there))
    (or_cases (p x) (list_any p xs) h)

-- the list of halves is at least as long as the share
abbrev pub IsAsLong : List Half → List Half → Type 0
IsAsLong l s = length s ≤ length l

-- what holds of each share of two lists
pub ByRecursion-append : (P : List Half → Type 0) (xs ys : List (List Half)) → ByRecursion P (xs ++ ys)
    → ByRecursion P xs × ByRecursion P ys
ByRecursion-append P [] ys h = (tt, h)
ByRecursion-append P (x ∷ xs) ys h = let rest = ByRecursion-append P xs ys h.1 in ((h.0, rest.0), rest.1)

pub ByRecursion-join : (P : List Half → Type 0) (xs ys : List (List Half)) → ByRecursion P xs
    → ByRecursion P ys → ByRecursion P (xs ++ ys)
ByRecursion-join P [] ys f g = g
ByRecursion-join P (x ∷ xs) ys f g = (f.0, ByRecursion-join P xs ys f.1 g)
