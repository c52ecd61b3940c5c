-- What the halves of a share tell of whether shares hold it.
use Rattle.std.proofs.Common.{◌≡◌, ℕ, ◌+◌, ◌<◌, ◌≤◌, Bool, true, false, List, [], ◌∷◌, ◌++◌, length}
use Rattle.std.proofs.Common.{replicate, refl, sym, ◌∙◌, ap, arith, length-append, ⊎_elim, inl, inr, ◌⊎◌}
use Rattle.std.specs.List.{list_any, AllByRecursion as ByRecursion}
use Rattle.std.proofs.lemmas.Bool.{and_parts, and_from, false≢true, both_ways, cases_lt, or_cases, or_parts}
use Rattle.std.proofs.lemmas.List.{length-replicate}
use Rattle.std.proofs.lemmas.List.Folds.{list_any-from_Any, Any-from_list_any}
use Rattle.std.proofs.lemmas.List.Elements.{recursion_from_All, All-from_recursion}
use Rattle.credit_ledger.specs.declared.share.Half.{Half}
use Rattle.credit_ledger.specs.declared.share.Half.TheVariants.{Keep, Give}
use Rattle.credit_ledger.specs.Shares.{is_same_half, begins_with, keep_half, give_half, Hold}
use Rattle.credit_ledger.proofs.HalvedLemmas.{ones, same_half, is_same_half-swap, begins_with-append}
use Rattle.credit_ledger.proofs.HalvedLemmas.{begins_with-itself, begins_with-halves, begins_with_through}
use Rattle.credit_ledger.proofs.HalvedLemmas.{length-begins_with, list_any_weaker, IsAsLong}

-- of two lists with which a third begins, one begins with the other
pub begins_with-either : (l s t : List Half) → begins_with l s ≡ true → begins_with l t ≡ true
    → (begins_with s t ≡ true) ⊎ (begins_with t s ≡ true)
begins_with-either l s [] e f = inl refl
begins_with-either l [] (h ∷ t) e f = inr refl
begins_with-either [] (g ∷ s) (h ∷ t) e f = absurd (false≢true e)
begins_with-either (k ∷ l) (g ∷ s) (h ∷ t) e f =
    let on_s = and_parts (is_same_half k g) (begins_with l s) e in
    let on_t = and_parts (is_same_half k h) (begins_with l t) f in
    let k_g : k ≡ g = same_half k g on_s.0 in
    let k_h : k ≡ h = same_half k h on_t.0 in
    let g_h : is_same_half g h ≡ true = ap (λ x. is_same_half x h) (sym k_g) ∙ on_t.0 in
    let h_g : is_same_half h g ≡ true = ap (λ x. is_same_half x g) (sym k_h) ∙ on_s.0 in
    ⊎_elim (λ first. inl (and_from _ _ g_h first)) (λ second. inr (and_from _ _ h_g second))
    (begins_with-either l s t on_s.1 on_t.1)

-- a list that begins with one as long is the same list
begins_with-swap : (t p : List Half) → begins_with t p ≡ true → length t ≤ length p → begins_with p t ≡ true
begins_with-swap [] p e short = refl
begins_with-swap (h ∷ t) [] e short = absurd (omega arith)
begins_with-swap (h ∷ t) (g ∷ p) e short =
    let parts = and_parts (is_same_half h g) (begins_with t p) e in
    and_from _ _ (is_same_half-swap g h ∙ parts.0) (begins_with-swap t p parts.1 (omega arith))

-- a share that begins with the piece, and with which the piece does not begin, is longer
longer-beyond : (p t : List Half) → begins_with p t ≡ false → begins_with t p ≡ true → length p < length t
longer-beyond p t apart on =
    ⊎_elim (λ (longer : length p < length t). longer)
    (λ (short : length t ≤ length p). absurd (both_ways _ apart (begins_with-swap t p on short)))
    (cases_lt (length p) (length t))

-- a piece that begins with a share is held
pub Hold-begun : (shares : List (List Half)) (p : List Half) → list_any (λ t. begins_with p t) shares ≡ true
    → Hold shares p
Hold-begun shares p begun l begins long =
    Any-from_list_any (λ t. begins_with l t) shares
    (list_any_weaker (λ t. begins_with p t) (λ t. begins_with l t)
    (λ t on. begins_with_through l p t begins on) shares begun)

-- the halves of all shares together, which no share exceeds
abbrev pub span : List (List Half) → ℕ
span [] = 0
span (t ∷ shares) = length t + span shares

pub IsAsLong-span : (l : List Half) (shares : List (List Half)) → span shares ≤ length l
    → ByRecursion (IsAsLong l) shares
IsAsLong-span l [] far = tt
IsAsLong-span l (t ∷ shares) far = (omega arith, IsAsLong-span l shares (omega arith))

no_third : (l p : List Half) (shares : List (List Half)) → begins_with l p ≡ true
    → list_any (λ t. begins_with p t) shares ≡ false → list_any (λ t. begins_with t p) shares ≡ false
    → list_any (λ t. begins_with l t) shares ≡ true → ⊥
no_third l p [] on_p apart off found = false≢true found
no_third l p (t ∷ shares) on_p apart off found =
    let here = or_parts (begins_with p t) (list_any (λ t. begins_with p t) shares) apart in
    let there = or_parts (begins_with t p) (list_any (λ t. begins_with t p) shares) off in
    ⊎_elim
    (λ (on_t : begins_with l t ≡ true).
    ⊎_elim (λ first. both_ways _ here.0 first) (λ second. both_ways _ there.0 second)
    (begins_with-either l p t on_p on_t))
    (λ rest. no_third l p shares on_p here.1 there.1 rest)
    (or_cases (begins_with l t) (list_any (λ t. begins_with l t) shares) found)

-- one that overlaps no share is not held
pub Hold-missing : (shares : List (List Half)) (p : List Half)
    → list_any (λ t. begins_with p t) shares ≡ false → list_any (λ t. begins_with t p) shares ≡ false
    → Hold shares p → ⊥
Hold-missing shares p apart off held =
    let l : List Half = p ++ replicate (span shares) Keep in
    let on_p : begins_with l p ≡ true =
    begins_with-append p (replicate (span shares) Keep) p (begins_with-itself p) in
    let far : span shares ≤ length l =
    omega (arith, length-append p (replicate (span shares) Keep), length-replicate (span shares) Keep) in
    let found =
    held l on_p
    (All-from_recursion (IsAsLong l) (p ∷ shares)
    (length-begins_with l p on_p, IsAsLong-span l shares far)) in
    no_third l p shares on_p apart off (list_any-from_Any (λ t. begins_with l t) shares found)

-- a list as long as each share is longer than a piece with which one of them goes on
longer-all : (l p : List Half) (shares : List (List Half)) → list_any (λ t. begins_with p t) shares ≡ false
    → list_any (λ t. begins_with t p) shares ≡ true → ByRecursion (IsAsLong l) shares → length p < length l
longer-all l p [] apart on short = absurd (false≢true on)
longer-all l p (t ∷ shares) apart on short =
    let parts = or_parts (begins_with p t) (list_any (λ t. begins_with p t) shares) apart in
    let here : length t ≤ length l = short.0 in
    ⊎_elim
    (λ (first : begins_with t p ≡ true). let longer = longer-beyond p t parts.0 first in omega arith)
    (λ rest. longer-all l p shares parts.1 rest short.1)
    (or_cases (begins_with t p) (list_any (λ t. begins_with t p) shares) on)

either-true : (kept given : Bool) → ones kept + ones given ≡ 1 → (kept ≡ true) ⊎ (given ≡ true)
either-true true given one = inl refl
either-true false true one = inr refl
either-true false false one = absurd (omega arith)

-- a piece is held where its halves are, and the other way round
pub Hold-halves : (shares : List (List Half)) (p : List Half) → list_any (λ t. begins_with p t) shares ≡ false
    → list_any (λ t. begins_with t p) shares ≡ true → Hold shares (keep_half p) → Hold shares (give_half p)
    → Hold shares p
Hold-halves shares p apart on kept given l begins long =
    let short = recursion_from_All (IsAsLong l) (p ∷ shares) long in
    let longer = longer-all l p shares apart on short.1 in
    let one : ones (begins_with l p) ≡ 1 = ap ones begins in
    let fits =
    λ (h : Half).
    All-from_recursion (IsAsLong l) ((p ++ h ∷ []) ∷ shares)
    (omega (arith, longer, length-append p (h ∷ [])), short.1) in
    ⊎_elim (λ first. kept l first (fits Keep)) (λ second. given l second (fits Give))
    (either-true (begins_with l (keep_half p)) (begins_with l (give_half p))
    (begins_with-halves l p longer ∙ one))
