-- Facts of each element of a list.
use Rattle.std.proofs.Common.{◌≡◌, ℕ, ◌≤◌, zero, suc, List, [], ◌∷◌, ◌++◌, true, false, Bool, cond, refl}
use Rattle.std.proofs.Common.{subst, arith, max, drop}
use Rattle.std.proofs.lemmas.Option.{none-some, same_Some}
use Rattle.std.specs.Prelude.{⊤, Some, slice_get, filter, fold, take}

abbrev pub Every : {X : Type 0} → (X → Type 0) → List X → Type 0
Every P [] = ⊤
Every P (x ∷ xs) = P x × Every P xs

pub every_append : {X : Type 0} (P : X → Type 0) (xs ys : List X) → Every P xs → Every P ys
    → Every P (xs ++ ys)
every_append P [] ys each rest = rest
every_append P (x ∷ xs) ys each rest = (each.0, every_append P xs ys each.1 rest)

pub every_weaker : {X : Type 0} (P Q : X → Type 0) → ((x : X) → P x → Q x) → (xs : List X) → Every P xs
    → Every Q xs
every_weaker P Q weaker [] each = tt
every_weaker P Q weaker (x ∷ xs) each = (weaker x each.0, every_weaker P Q weaker xs each.1)

pub every_if : {X : Type 0} (P : X → Type 0) (b : Bool) (x : X) (l : List X) → (b ≡ true → P x) → Every P l
    → Every P (cond b (x ∷ l) l)
every_if P true x l first each = (first refl, each)
every_if P false x l first each = each

pub every_filter : {X : Type 0} (P : X → Type 0) (p : X → Bool) (xs : List X) → Every P xs
    → Every P (filter p xs)
every_filter P p [] each = tt
every_filter P p (x ∷ xs) each = every_if P (p x) x (filter p xs) (λ e. each.0) (every_filter P p xs each.1)

pub every_passes : {X : Type 0} (p : X → Bool) (xs : List X) → Every (λ x. p x ≡ true) (filter p xs)
every_passes p [] = tt
every_passes p (x ∷ xs) = every_if (λ y. p y ≡ true) (p x) x (filter p xs) (λ e. e) (every_passes p xs)

pub every_take : {X : Type 0} (P : X → Type 0) (n : ℕ) (xs : List X) → Every P xs → Every P (take n xs)
every_take P zero xs each = tt
every_take P (suc n) [] each = tt
every_take P (suc n) (x ∷ xs) each = (each.0, every_take P n xs each.1)

pub every_get : {X : Type 0} (P : X → Type 0) (xs : List X) (i : ℕ) (x : X) → Every P xs
    → slice_get xs i ≡ Some x → P x
every_get P [] i x each is = absurd (none-some x is)
every_get P (y ∷ ys) zero x each is = subst P (same_Some y x is) each.0
every_get P (y ∷ ys) (suc i) x each is = every_get P ys i x each.1 is

-- ---- a greatest number

pub fold_most : {X : Type 0} (f : X → ℕ) (xs : List X) (a : ℕ)
    → (a ≤ fold (λ most x. max most (f x)) a xs) × Every (λ x. f x ≤ fold (λ most x. max most (f x)) a xs) xs
fold_most f [] a = (omega arith, tt)
fold_most f (x ∷ xs) a =
    let rest = fold_most f xs (max a (f x)) in
    (omega (arith, rest.0), (omega (arith, rest.0), rest.1))

pub every_rest : {X : Type 0} (P : X → Type 0) (xs : List X) → Every P xs → Every P (drop 1 xs)
every_rest P [] each = each
every_rest P (x ∷ xs) each = each.1
