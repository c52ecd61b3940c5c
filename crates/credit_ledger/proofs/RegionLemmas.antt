-- Shares in a region of their own hold one another just as they do outside.
use Rattle.std.proofs.Common.{◌≡◌, ◌+◌, ◌≤◌, Bool, true, List, [], ◌∷◌, ◌++◌, length, replicate, refl, sym}
use Rattle.std.proofs.Common.{◌∙◌, ap, arith, length-append, ⊎_elim, inl, inr, ◌⊎◌}
use Rattle.std.specs.List.{list_any, flat_map, AllByRecursion as ByRecursion}
use Rattle.std.proofs.lemmas.Bool.{and_parts, false≢true, or_cases, or_left, or_right}
use Rattle.std.proofs.lemmas.List.{length-replicate}
use Rattle.std.proofs.lemmas.List.Folds.{list_any-from_Any, Any-from_list_any}
use Rattle.std.proofs.lemmas.List.Elements.{recursion_from_All, All-from_recursion}
use Rattle.credit_ledger.specs.declared.share.Half.{Half}
use Rattle.credit_ledger.specs.declared.share.Half.TheVariants.{Keep}
use Rattle.credit_ledger.specs.Shares.{is_same_half, begins_with, overlaps, Hold}
use Rattle.credit_ledger.proofs.HalvedLemmas.{same_half, is_same_half-itself, begins_with-append, IsAsLong}
use Rattle.credit_ledger.proofs.HoldLemmas.{begins_with-either, span, IsAsLong-span}
use Rattle.credit_ledger.proofs.HeldLemmas.{begins_with-cut}

-- the share is one of these
abbrev pub IsShareIn : List Half → List (List Half) → Type 0
IsShareIn x [] = ⊥
IsShareIn x (y ∷ ys) = (x ≡ y) ⊎ IsShareIn x ys

pub IsShareIn-append_left : (x : List Half) (xs ys : List (List Half)) → IsShareIn x xs
    → IsShareIn x (xs ++ ys)
IsShareIn-append_left x [] ys h = absurd h
IsShareIn-append_left x (y ∷ xs) ys h =
    ⊎_elim (λ (same : x ≡ y). inl same)
    (λ (there : IsShareIn x xs). inr (IsShareIn-append_left x xs ys there)) h

pub IsShareIn-append_right : (x : List Half) (xs ys : List (List Half)) → IsShareIn x ys
    → IsShareIn x (xs ++ ys)
IsShareIn-append_right x [] ys h = h
IsShareIn-append_right x (y ∷ xs) ys h = inr (IsShareIn-append_right x xs ys h)

pub IsShareIn-append_cases : (x : List Half) (xs ys : List (List Half)) → IsShareIn x (xs ++ ys)
    → IsShareIn x xs ⊎ IsShareIn x ys
IsShareIn-append_cases x [] ys h = inr h
IsShareIn-append_cases x (y ∷ xs) ys h =
    ⊎_elim (λ (same : x ≡ y). inl (inl same))
    (λ (there : IsShareIn x (xs ++ ys)).
    ⊎_elim (λ (first : IsShareIn x xs). inl (inr first)) (λ (second : IsShareIn x ys). inr second)
    (IsShareIn-append_cases x xs ys there)) h

pub list_any-in : (test : List Half → Bool) (x : List Half) (xs : List (List Half)) → IsShareIn x xs
    → test x ≡ true → list_any test xs ≡ true
list_any-in test x [] h passes = absurd h
list_any-in test x (y ∷ xs) h passes =
    ⊎_elim (λ (same : x ≡ y). or_left _ _ (ap test (sym same) ∙ passes))
    (λ (there : IsShareIn x xs). or_right (test y) _ (list_any-in test x xs there passes)) h

pub data Passes (test : List Half → Bool) (xs : List (List Half)) : Type 0 where
  passes : (x : List Half) → IsShareIn x xs → test x ≡ true → Passes test xs

pub Passes-list_any : (test : List Half → Bool) (xs : List (List Half)) → list_any test xs ≡ true
    → Passes test xs
Passes-list_any test [] h = absurd (false≢true h)
Passes-list_any test (y ∷ xs) h =
    ⊎_elim (λ first. passes y (inl refl) first) (λ rest. later (Passes-list_any test xs rest))
    (or_cases (test y) (list_any test xs) h)
  where
    later : Passes test xs → Passes test (y ∷ xs)
    later (passes x there ok) = passes x (inr there) ok

short_from_all : (l : List Half) (xs : List (List Half))
    → ((x : List Half) → IsShareIn x xs → length x ≤ length l)
    → ByRecursion (IsAsLong l) xs
short_from_all l [] all = tt
short_from_all l (x ∷ xs) all = (all x (inl refl), short_from_all l xs (λ y there. all y (inr there)))

all_short : (l x : List Half) (xs : List (List Half)) → ByRecursion (IsAsLong l) xs → IsShareIn x xs
    → length x ≤ length l
all_short l x [] h there = absurd there
all_short l x (y ∷ xs) h there =
    ⊎_elim (λ (same : x ≡ y). omega (arith, h.0, ap length same))
    (λ (rest : IsShareIn x xs). all_short l x xs h.1 rest) there

pub begins_with-shift : (a u v : List Half) → begins_with (a ++ u) (a ++ v) ≡ begins_with u v
begins_with-shift [] u v = refl
begins_with-shift (h ∷ a) u v =
    ap (λ b. Rattle.std.specs.Prelude.◌&&◌ b (begins_with (a ++ u) (a ++ v))) (is_same_half-itself h)
    ∙ begins_with-shift a u v

pub data IsSplit (l a s : List Half) : Type 0 where
  split : (r : List Half) → l ≡ a ++ r → begins_with r s ≡ true → IsSplit l a s

pub IsSplit-begun : (l a s : List Half) → begins_with l (a ++ s) ≡ true → IsSplit l a s
IsSplit-begun l [] s e = split l refl e
IsSplit-begun [] (h ∷ a) s e = absurd (false≢true e)
IsSplit-begun (g ∷ l) (h ∷ a) s e =
    below (and_parts (is_same_half g h) (begins_with l (a ++ s)) e).0
    (IsSplit-begun l a s (and_parts (is_same_half g h) (begins_with l (a ++ s)) e).1)
  where
    below : is_same_half g h ≡ true → IsSplit l a s → IsSplit (g ∷ l) (h ∷ a) s
    below first (split r same begun) = let k : g ≡ h = same_half g h first in split r (cc) begun

pub data IsShifted (a x : List Half) (ys : List (List Half)) : Type 0 where
  shifted : (y : List Half) → IsShareIn y ys → x ≡ a ++ y → IsShifted a x ys

-- shares of which those that overlap one are the others, shifted
pub record AreShifted (a s : List Half) (xs ys : List (List Half)) : Type 0 where
  pub there : (y : List Half) → IsShareIn y ys → IsShareIn (a ++ y) xs
  pub back : (x : List Half) → IsShareIn x xs → overlaps x (a ++ s) ≡ true → IsShifted a x ys

pub Hold-outside : (a s : List Half) (xs ys : List (List Half)) → AreShifted a s xs ys → Hold xs (a ++ s)
    → Hold ys s
Hold-outside a s xs ys region held l begins long =
    Any-from_list_any (λ t. begins_with l t) ys (by_share (Passes-list_any (λ t. begins_with far t) xs (
    list_any-from_Any (λ t. begins_with far t) xs
    (held far on_s
    (All-from_recursion (IsAsLong far) ((a ++ s) ∷ xs)
    (shorter, IsAsLong-span far xs (omega (arith, length-far))))))))
  where
    pad : List Half
    pad = replicate (span xs) Keep

    far : List Half
    far = a ++ (l ++ pad)

    short : ByRecursion (IsAsLong l) (s ∷ ys)
    short = recursion_from_All (IsAsLong l) (s ∷ ys) long

    on_s : begins_with far (a ++ s) ≡ true
    on_s = begins_with-shift a (l ++ pad) s ∙ begins_with-append l pad s begins

    length-far : length far ≡ length a + (length l + span xs)
    length-far =
        omega (arith, length-append a (l ++ pad), length-append l pad, length-replicate (span xs) Keep)

    shorter : length (a ++ s) ≤ length far
    shorter = omega (arith, length-far, length-append a s, short.0)

    by_shifted : (x : List Half) → begins_with far x ≡ true → IsShifted a x ys
        → list_any (λ t. begins_with l t) ys ≡ true
    by_shifted x on (shifted y inside same) =
        let after : begins_with (l ++ pad) y ≡ true =
        sym (begins_with-shift a (l ++ pad) y) ∙ ap (begins_with far) (sym same) ∙ on in
        list_any-in (λ t. begins_with l t) y ys inside
        (begins_with-cut l pad y after (all_short l y ys short.1 inside))

    by_share : Passes (λ t. begins_with far t) xs → list_any (λ t. begins_with l t) ys ≡ true
    by_share (passes x inside on) =
        by_shifted x on (region.back x inside
        (⊎_elim (λ first. or_left _ _ first) (λ second. or_right (begins_with x (a ++ s)) _ second)
        (begins_with-either far x (a ++ s) on on_s)))

pub Hold-inside : (a s : List Half) (xs ys : List (List Half)) → AreShifted a s xs ys → Hold ys s
    → Hold xs (a ++ s)
Hold-inside a s xs ys region held l begins long =
    Any-from_list_any (λ t. begins_with l t) xs (by_split (IsSplit-begun l a s begins))
  where
    short : ByRecursion (IsAsLong l) ((a ++ s) ∷ xs)
    short = recursion_from_All (IsAsLong l) ((a ++ s) ∷ xs) long

    by_share : (r : List Half) → l ≡ a ++ r → Passes (λ t. begins_with r t) ys
        → list_any (λ t. begins_with l t) xs ≡ true
    by_share r same (passes y inside on) =
        list_any-in (λ t. begins_with l t) (a ++ y) xs (region.there y inside)
        (ap (λ x. begins_with x (a ++ y)) same ∙ begins_with-shift a r y ∙ on)

    by_split : IsSplit l a s → list_any (λ t. begins_with l t) xs ≡ true
    by_split (split r same begun) =
        by_share r same (Passes-list_any (λ t. begins_with r t) ys (list_any-from_Any (λ t. begins_with r t)
        ys
        (held r begun (All-from_recursion (IsAsLong r) (s ∷ ys) (
          omega (arith, short.0, ap length same, length-append a r, length-append a s),
          short_from_all r ys (λ y inside.
              let in_x = all_short l (a ++ y) xs short.1 (region.there y inside) in
              omega (arith, in_x, ap length same, length-append a r, length-append a y)),
        )))))
