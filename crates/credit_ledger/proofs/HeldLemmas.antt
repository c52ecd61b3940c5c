-- When shares hold one: what further ones change, and what a run with its children gives.
use Rattle.std.proofs.Common.{◌≡◌, ℕ, zero, suc, ◌+◌, ◌<◌, ◌≤◌, Bool, true, false, List, [], ◌∷◌, ◌++◌}
use Rattle.std.proofs.Common.{length, replicate, refl, sym, ◌∙◌, ap, subst, arith, append_assoc}
use Rattle.std.proofs.Common.{length-append, ⊎_elim}
use Rattle.std.specs.Prelude.{Some, slice_get}
use Rattle.std.specs.List.{list_any, AllByRecursion as ByRecursion}
use Rattle.std.proofs.lemmas.Bool.{and_parts, and_from, false≢true, cases_Bool, or_cases, or_left, or_right}
use Rattle.std.proofs.lemmas.Bool.{false_from_ne_true}
use Rattle.std.proofs.lemmas.List.{length-replicate, replicate_more}
use Rattle.std.proofs.lemmas.List.Folds.{list_any-append, list_any-from_Any, Any-from_list_any}
use Rattle.std.proofs.lemmas.List.Elements.{recursion_from_All, All-from_recursion}
use Rattle.credit_ledger.specs.declared.share.Half.{Half}
use Rattle.credit_ledger.specs.declared.share.Half.TheVariants.{Keep}
use Rattle.credit_ledger.specs.Shares.{begins_with, keep_half, give_half, Hold}
use Rattle.credit_ledger.specs.Paths.{keeps}
use Rattle.credit_ledger.proofs.HalvedLemmas.{begins_with-append, begins_with-itself, begins_with_through}
use Rattle.credit_ledger.proofs.HalvedLemmas.{length-begins_with, IsAsLong, ByRecursion-append}
use Rattle.credit_ledger.proofs.HalvedLemmas.{ByRecursion-join}
use Rattle.credit_ledger.proofs.HoldLemmas.{Hold-begun, Hold-missing, Hold-halves, begins_with-either, span}
use Rattle.credit_ledger.proofs.PathLemmas.{keeps-longer, length-keeps}

-- the element that passes a test
pub data Found (test : List Half → Bool) (shares : List (List Half)) : Type 0 where
  found : (i : ℕ) (t : List Half) → slice_get shares i ≡ Some t → test t ≡ true → Found test shares

Found-later : (test : List Half → Bool) (s : List Half) (shares : List (List Half)) → Found test shares
    → Found test (s ∷ shares)
Found-later test s shares (found i t at passes) = found (suc i) t at passes

pub Found-list_any : (test : List Half → Bool) (shares : List (List Half)) → list_any test shares ≡ true
    → Found test shares
Found-list_any test [] h = absurd (false≢true h)
Found-list_any test (s ∷ shares) h =
    ⊎_elim (λ here. found 0 s refl here)
    (λ there. Found-later test s shares (Found-list_any test shares there))
    (or_cases (test s) (list_any test shares) h)

pub list_any-found : (test : List Half → Bool) (shares : List (List Half)) (i : ℕ) (t : List Half)
    → slice_get shares i ≡ Some t → test t ≡ true → list_any test shares ≡ true
list_any-found test [] i t at passes = cc
list_any-found test (s ∷ shares) zero t at passes = let e : s ≡ t = cc in or_left _ _ (ap test e ∙ passes)
list_any-found test (s ∷ shares) (suc i) t at passes =
    or_right (test s) _ (list_any-found test shares i t at passes)

-- what no element passes
pub list_any-none : (test : List Half → Bool) (shares : List (List Half))
    → ((i : ℕ) (t : List Half) → slice_get shares i ≡ Some t → test t ≡ true → ⊥)
    → list_any test shares ≡ false
list_any-none test shares none =
    false_from_ne_true (list_any test shares) (λ some. Found-elim (Found-list_any test shares some))
  where
    Found-elim : Found test shares → ⊥
    Found-elim (found i t at passes) = none i t at passes

pub slice_get-length : (shares : List (List Half)) (i : ℕ) (t : List Half) → slice_get shares i ≡ Some t
    → length t ≤ span shares
slice_get-length [] i t at = cc
slice_get-length (s ∷ shares) zero t at = let e : s ≡ t = cc in omega (arith, ap length e)
slice_get-length (s ∷ shares) (suc i) t at = omega (arith, slice_get-length shares i t at)

-- what more halves follow is held too
pub Hold-longer : (shares : List (List Half)) (s r : List Half) → begins_with r s ≡ true → Hold shares s
    → Hold shares r
Hold-longer shares s r begun held l begins long =
    let short = recursion_from_All (IsAsLong l) (r ∷ shares) long in
    held l (begins_with_through l r s begins begun)
    (All-from_recursion (IsAsLong l) (s ∷ shares)
    (omega (arith, short.0, length-begins_with r s begun), short.1))

-- what is held stays held
pub Hold-append : (shares more : List (List Half)) (s : List Half) → Hold shares s → Hold (shares ++ more) s
Hold-append shares more s held l begins long =
    let short = recursion_from_All (IsAsLong l) (s ∷ (shares ++ more)) long in
    let parts = ByRecursion-append (IsAsLong l) shares more short.1 in
    let some =
    list_any-from_Any (λ t. begins_with l t) shares
    (held l begins (All-from_recursion (IsAsLong l) (s ∷ shares) (short.0, parts.0))) in
    Any-from_list_any (λ t. begins_with l t) (shares ++ more)
    (list_any-append (λ t. begins_with l t) shares more ∙ or_left _ _ some)

-- a list that begins with a longer one's beginning
pub begins_with-cut : (l x t : List Half) → begins_with (l ++ x) t ≡ true → length t ≤ length l
    → begins_with l t ≡ true
begins_with-cut l x [] e short = refl
begins_with-cut [] x (h ∷ t) e short = absurd (omega arith)
begins_with-cut (g ∷ l) x (h ∷ t) e short =
    let parts = and_parts _ (begins_with (l ++ x) t) e in
    and_from _ _ parts.0 (begins_with-cut l x t parts.1 (omega arith))

-- a share that overlaps another one does nothing for it
pub Hold-without : (shares : List (List Half)) (t s : List Half) → (begins_with s t ≡ true → ⊥)
    → (begins_with t s ≡ true → ⊥) → Hold (shares ++ t ∷ []) s → Hold shares s
Hold-without shares t s apart off held l begins long =
    let short = recursion_from_All (IsAsLong l) (s ∷ shares) long in
    let x : List Half = replicate (length t) Keep in
    let on_s : begins_with (l ++ x) s ≡ true = begins_with-append l x s begins in
    let far : length (l ++ x) ≡ length l + length t =
    omega (arith, length-append l x, length-replicate (length t) Keep) in
    let longer : ByRecursion (IsAsLong (l ++ x)) shares = ByRecursion-longer l x shares short.1 in
    let all : ByRecursion (IsAsLong (l ++ x)) (s ∷ (shares ++ t ∷ [])) = (
      omega (arith, far, short.0),
      ByRecursion-join (IsAsLong (l ++ x)) shares (t ∷ []) longer (omega (arith, far), tt),
    ) in
    let some =
    list_any-from_Any (λ r. begins_with (l ++ x) r) (shares ++ t ∷ [])
    (held (l ++ x) on_s (All-from_recursion (IsAsLong (l ++ x)) (s ∷ (shares ++ t ∷ [])) all)) in
    Any-from_list_any (λ r. begins_with l r) shares
    (⊎_elim
    (λ (early : list_any (λ r. begins_with (l ++ x) r) shares ≡ true). list_any-cut l x shares short.1 early)
    (λ (late : list_any (λ r. begins_with (l ++ x) r) (t ∷ []) ≡ true).
    ⊎_elim
    (λ (on_t : begins_with (l ++ x) t ≡ true).
    absurd (⊎_elim apart off (begins_with-either (l ++ x) s t on_s on_t)))
    (λ none. absurd (false≢true none))
    (or_cases (begins_with (l ++ x) t) false late))
    (or_cases _ _ (sym (list_any-append (λ r. begins_with (l ++ x) r) shares (t ∷ [])) ∙ some)))
  where
    ByRecursion-longer : (l x : List Half) (shares : List (List Half)) → ByRecursion (IsAsLong l) shares
        → ByRecursion (IsAsLong (l ++ x)) shares
    ByRecursion-longer l x [] h = tt
    ByRecursion-longer l x (r ∷ shares) h =
        (omega (arith, length-append l x, h.0), ByRecursion-longer l x shares h.1)

    list_any-cut : (l x : List Half) (shares : List (List Half)) → ByRecursion (IsAsLong l) shares
        → list_any (λ r. begins_with (l ++ x) r) shares ≡ true → list_any (λ r. begins_with l r) shares ≡ true
    list_any-cut l x [] h some = absurd (false≢true some)
    list_any-cut l x (r ∷ shares) h some =
        ⊎_elim (λ here. or_left _ _ (begins_with-cut l x r here h.0))
        (λ there. or_right (begins_with l r) _ (list_any-cut l x shares h.1 there))
        (or_cases (begins_with (l ++ x) r) (list_any (λ r. begins_with (l ++ x) r) shares) some)

-- a share that one of them begins
pub Hold-found : (shares : List (List Half)) (i : ℕ) (t s : List Half) → slice_get shares i ≡ Some t
    → begins_with s t ≡ true → Hold shares s
Hold-found shares i t s at begun =
    Hold-begun shares s (list_any-found (λ r. begins_with s r) shares i t at begun)

-- one that overlaps none of them
pub Hold-apart : (shares : List (List Half)) (s : List Half)
    → ((i : ℕ) (t : List Half) → slice_get shares i ≡ Some t → begins_with s t ≡ true → ⊥)
    → ((i : ℕ) (t : List Half) → slice_get shares i ≡ Some t → begins_with t s ≡ true → ⊥) → Hold shares s → ⊥
Hold-apart shares s apart off held =
    Hold-missing shares s (list_any-none (λ t. begins_with s t) shares apart)
    (list_any-none (λ t. begins_with t s) shares off) held

-- no run of Keep halves was entered here or above: nothing is held
pub Hold-no_run : (shares : List (List Half)) (s : List Half) (m : ℕ)
    → ((j i : ℕ) (t : List Half) → slice_get shares i ≡ Some t → begins_with (keeps s j) t ≡ true → ⊥)
    → Hold shares (keeps s m) → ⊥
Hold-no_run shares s m none held =
    let far : ℕ = m + (span shares + 1) in
    Hold-apart shares (keeps s far) (none far)
    (λ i t at begun.
    let one = slice_get-length shares i t at in
    let two = length-begins_with t (keeps s far) begun in
    omega (arith, one, two, length-keeps s far))
    (Hold-longer shares (keeps s m) (keeps s far) (keeps-longer s far m (omega arith)) held)

-- a run of Keep halves and the children before it
pub Hold-run : (shares : List (List Half)) (s : List Half) (i l : ℕ) → slice_get shares i ≡ Some (keeps s l)
    → (d m : ℕ) → m + d ≡ l → ((j : ℕ) → m ≤ j → j < l → Hold shares (give_half (keeps s j)))
    → Hold shares (keeps s m)
Hold-run shares s i l at zero m e children =
    let same : l ≡ m = omega arith in
    Hold-found shares i (keeps s l) (keeps s m)
    at
    (subst (λ k. begins_with (keeps s m) (keeps s k) ≡ true) (sym same)
    (begins_with-itself (keeps s m)))
Hold-run shares s i l at (suc d) m e children =
    let kept : keeps s (m + 1) ≡ keep_half (keeps s m) =
    ap (λ r. s ++ r) (sym (replicate_more m Keep))
    ∙ sym (append_assoc s (replicate m Keep) (Keep ∷ [])) in
    ⊎_elim
    (λ (begun : list_any (λ t. begins_with (keeps s m) t) shares ≡ true). Hold-begun shares (keeps s m) begun)
    (λ (apart : list_any (λ t. begins_with (keeps s m) t) shares ≡ false).
    Hold-halves shares (keeps s m) apart
    (list_any-found (λ t. begins_with t (keeps s m)) shares i (keeps s l)
    at (keeps-longer s l m (omega arith)))
    (subst (λ r. Hold shares r) kept
    (Hold-run shares s i l at d (m + 1) (omega arith) (λ j low high. children j (omega arith) high)))
    (children m (omega arith) (omega arith)))
    (cases_Bool (list_any (λ t. begins_with (keeps s m) t) shares))
