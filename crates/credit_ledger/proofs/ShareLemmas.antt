-- Shares of the right to enter: which lists of them are all, and which overlap.
use Rattle.std.proofs.Common.{◌≡◌, ◌⊎◌, ◌∙◌, true, false, List, [], ◌∷◌, ◌++◌, refl, sym, ap, inl}
use Rattle.std.proofs.Common.{inr, ⊎_elim}
use Rattle.std.specs.Prelude.{map}
use Rattle.std.specs.List.{list_any}
use Rattle.std.specs.List.Sorted.{IsPermutation}
use Rattle.std.proofs.lemmas.List.Sorted.{list_any-IsPermutation}
use Rattle.std.proofs.lemmas.Bool.{and_parts, and_from, false≢true, or_cases, or_left, or_right}
use Rattle.credit_ledger.specs.declared.share.Half.{Half}
use Rattle.credit_ledger.specs.declared.share.Half.TheVariants.{Keep, Give}
use Rattle.credit_ledger.specs.Shares.{is_same_half, begins_with, overlaps, keep_half, give_half}
use Rattle.credit_ledger.proofs.HalvedLemmas.{begins_with-append, begins_with-longer}
use Rattle.credit_ledger.proofs.HalvedLemmas.{begins_with_through, is_same_half-itself, same_half}
use Rattle.credit_ledger.specs.Seats.{AreAll, IsShareOf}

-- ---- two shares

pub overlaps-swap : (s t : List Half) → overlaps s t ≡ true → overlaps t s ≡ true
overlaps-swap s t e =
    ⊎_elim (λ f. or_right (begins_with t s) (begins_with s t) f)
    (λ f. or_left (begins_with t s) (begins_with s t) f)
    (or_cases (begins_with s t) (begins_with t s) e)

-- of two shares with which a list begins, one begins with the other
begun-overlap : (l s t : List Half) → begins_with l s ≡ true → begins_with l t ≡ true → overlaps s t ≡ true
begun-overlap l s [] e f = or_left (begins_with s []) (begins_with [] s) refl
begun-overlap l [] (h ∷ t) e f = or_right (begins_with [] (h ∷ t)) (begins_with (h ∷ t) []) refl
begun-overlap [] (g ∷ s) (h ∷ t) e f = absurd (false≢true e)
begun-overlap (k ∷ l) (g ∷ s) (h ∷ t) e f =
    let one = and_parts (is_same_half k g) (begins_with l s) e in
    let other = and_parts (is_same_half k h) (begins_with l t) f in
    let same = sym (same_half k g one.0) ∙ same_half k h other.0 in
    ⊎_elim
    (λ x. or_left _ _ (and_from _ _ (ap (is_same_half g) (sym same) ∙ is_same_half-itself g) x))
    (λ x.
    or_right (begins_with (g ∷ s) (h ∷ t)) _
    (and_from _ _ (ap (is_same_half h) same ∙ is_same_half-itself h) x))
    (or_cases (begins_with s t) (begins_with t s) (begun-overlap l s t one.1 other.1))

-- what overlaps a longer share overlaps the shorter one
pub overlaps-shorter : (s t more : List Half) → overlaps s (t ++ more) ≡ true → overlaps s t ≡ true
overlaps-shorter s t more e =
    ⊎_elim
    (λ f. or_left _ _ (begins_with_through s (t ++ more) t f (begins_with-longer t more)))
    (λ f. begun-overlap (t ++ more) s t f (begins_with-longer t more))
    (or_cases (begins_with s (t ++ more)) (begins_with (t ++ more) s) e)

-- the two halves of a share do not overlap
pub halves-apart : (s : List Half) → overlaps (keep_half s) (give_half s) ≡ true → false ≡ true
halves-apart [] e = e
halves-apart (Keep ∷ s) e = halves-apart s e
halves-apart (Give ∷ s) e = halves-apart s e

-- what overlaps a share overlaps one of its halves
overlaps-half : (x s : List Half) → overlaps x s ≡ true
    → (overlaps x (keep_half s) ≡ true) ⊎ (overlaps x (give_half s) ≡ true)
overlaps-half x s e =
    ⊎_elim (λ f. longer (begun-half x s f))
    (λ f. inl (or_right (begins_with x (keep_half s)) _ (begins_with-append s (Keep ∷ []) x f)))
    (or_cases (begins_with x s) (begins_with s x) e)
  where
    begun-half : (y t : List Half) → begins_with y t ≡ true
        → (begins_with t y ≡ true) ⊎ ((begins_with y (keep_half t) ≡ true)
        ⊎ (begins_with y (give_half t) ≡ true))
    begun-half [] [] f = inl refl
    begun-half (Keep ∷ y) [] f = inr (inl refl)
    begun-half (Give ∷ y) [] f = inr (inr refl)
    begun-half [] (h ∷ t) f = absurd (false≢true f)
    begun-half (g ∷ y) (h ∷ t) f =
        let parts = and_parts (is_same_half g h) (begins_with y t) f in
        let same = same_half g h parts.0 in
        ⊎_elim
        (λ b. inl (and_from _ _ (ap (is_same_half h) same ∙ is_same_half-itself h) b))
        (λ c.
        inr
        (⊎_elim (λ b. inl (and_from _ _ parts.0 b)) (λ b. inr (and_from _ _ parts.0 b)) c))
        (begun-half y t parts.1)

    longer : (begins_with s x ≡ true) ⊎ ((begins_with x (keep_half s) ≡ true)
        ⊎ (begins_with x (give_half s) ≡ true))
        → (overlaps x (keep_half s) ≡ true) ⊎ (overlaps x (give_half s) ≡ true)
    longer (inl f) = inl (or_right (begins_with x (keep_half s)) _ (begins_with-append s (Keep ∷ []) x f))
    longer (inr c) =
        ⊎_elim (λ f. inl (or_left (begins_with x (keep_half s)) _ f))
        (λ f. inr (or_left (begins_with x (give_half s)) _ f)) c

-- ---- the shares of a list

pub share-append : (s : List Half) (xs ys : List (List Half)) → IsShareOf s (xs ++ ys)
    → IsShareOf s xs ⊎ IsShareOf s ys
share-append s [] ys f = inr f
share-append s (x ∷ xs) ys (inl is) = inl (inl is)
share-append s (x ∷ xs) ys (inr f) =
    ⊎_elim (λ there. inl (inr there)) (λ there. inr there) (share-append s xs ys f)

pub share-map : (f : List Half → List Half) (s : List Half) (xs : List (List Half)) → IsShareOf s (map f xs)
    → (t : List Half) × IsShareOf t xs × (f t ≡ s)
share-map f s [] e = absurd e
share-map f s (x ∷ xs) (inl is) = (x, inl refl, is)
share-map f s (x ∷ xs) (inr e) = let there = share-map f s xs e in (there.0, inr there.1, there.2)

-- one of them is overlapped
pub overlapped : (s : List Half) (xs : List (List Half)) → list_any (overlaps s) xs ≡ true
    → (t : List Half) × IsShareOf t xs × (overlaps s t ≡ true)
overlapped s [] e = absurd (false≢true e)
overlapped s (x ∷ xs) e =
    ⊎_elim (λ here. (x, inl refl, here))
    (λ more. let there = overlapped s xs more in (there.0, inr there.1, there.2))
    (or_cases (overlaps s x) (list_any (overlaps s) xs) e)

any-left : (s : List Half) (xs ys : List (List Half)) → list_any (overlaps s) xs ≡ true
    → list_any (overlaps s) (xs ++ ys) ≡ true
any-left s [] ys e = absurd (false≢true e)
any-left s (x ∷ xs) ys e =
    ⊎_elim (λ here. or_left _ _ here) (λ there. or_right (overlaps s x) _ (any-left s xs ys there))
    (or_cases (overlaps s x) (list_any (overlaps s) xs) e)

any-right : (s : List Half) (xs ys : List (List Half)) → list_any (overlaps s) ys ≡ true
    → list_any (overlaps s) (xs ++ ys) ≡ true
any-right s [] ys e = e
any-right s (x ∷ xs) ys e = or_right (overlaps s x) _ (any-right s xs ys e)

any-append : (s : List Half) (xs ys : List (List Half)) → list_any (overlaps s) (xs ++ ys) ≡ true
    → (list_any (overlaps s) xs ≡ true) ⊎ (list_any (overlaps s) ys ≡ true)
any-append s [] ys e = inr e
any-append s (x ∷ xs) ys e =
    ⊎_elim (λ here. inl (or_left _ _ here))
    (λ there. ⊎_elim (λ f. inl (or_right (overlaps s x) _ f)) (λ f. inr f) (any-append s xs ys there))
    (or_cases (overlaps s x) (list_any (overlaps s) (xs ++ ys)) e)

-- ---- which lists of shares are all

-- the whole right
pub all-whole : AreAll ([] ∷ [])
all-whole share =
    or_left (overlaps share []) false (or_left (begins_with share []) (begins_with [] share) refl)

-- all shares in another order
pub all-permuted : (xs ys : List (List Half)) → IsPermutation xs ys → AreAll xs → AreAll ys
all-permuted xs ys permuted all share =
    sym (list_any-IsPermutation (overlaps share) xs ys permuted) ∙ all share

any-halved : (share : List Half) (shares : List (List Half)) → list_any (overlaps share) shares ≡ true
    → list_any (overlaps share) (map keep_half shares ++ map give_half shares) ≡ true
any-halved share [] e = absurd (false≢true e)
any-halved share (s ∷ shares) e =
    ⊎_elim
    (λ here.
    ⊎_elim (λ f. or_left _ _ f)
    (λ f.
    any-right share (map keep_half (s ∷ shares)) (map give_half (s ∷ shares)) (or_left _ _ f))
    (overlaps-half share s here))
    (λ there.
    ⊎_elim
    (λ f.
    any-left share (map keep_half (s ∷ shares)) (map give_half (s ∷ shares))
    (or_right (overlaps share (keep_half s)) _ f))
    (λ f.
    any-right share (map keep_half (s ∷ shares)) (map give_half (s ∷ shares))
    (or_right (overlaps share (give_half s)) _ f))
    (any-append share (map keep_half shares) (map give_half shares) (any-halved share shares there)))
    (or_cases (overlaps share s) (list_any (overlaps share) shares) e)

-- all shares, some of them halved as a split does
pub all-split : (before shares after : List (List Half)) → AreAll (before ++ shares ++ after)
    → AreAll (before ++ (map keep_half shares ++ map give_half shares) ++ after)
all-split before shares after all share =
    ⊎_elim
    (λ f.
    any-left share (before ++ (map keep_half shares ++ map give_half shares)) after
    (⊎_elim (λ g. any-left share before (map keep_half shares ++ map give_half shares) g)
    (λ g.
    any-right share before (map keep_half shares ++ map give_half shares) (any-halved share shares g))
    (any-append share before shares f)))
    (λ f. any-right share (before ++ (map keep_half shares ++ map give_half shares)) after f)
    (any-append share (before ++ shares) after (all share))
