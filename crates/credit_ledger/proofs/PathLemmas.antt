-- What paths tell of shares.
use Rattle.std.proofs.Common.{◌≡◌, ℕ, zero, suc, ◌+◌, ◌≤◌, true, false, List, [], ◌∷◌, ◌++◌, length}
use Rattle.std.proofs.Common.{replicate, refl, sym, ◌∙◌, ap, subst, arith, append_assoc, length-append}
use Rattle.std.proofs.Common.{⊎_elim, inl, inr, ◌⊎◌}
use Rattle.std.specs.Prelude.{reverse}
use Rattle.std.proofs.lemmas.Bool.{and_parts, and_from, false≢true}
use Rattle.std.proofs.lemmas.List.{append-nil, length-replicate, replicate_more, reverse-append}
use Rattle.credit_ledger.specs.declared.share.Half.{Half}
use Rattle.credit_ledger.specs.declared.share.Half.TheVariants.{Keep, Give}
use Rattle.credit_ledger.specs.Shares.{is_same_half, begins_with, start_share, finish_share}
use Rattle.credit_ledger.specs.Paths.{keeps, prefix, path_from, path_of}
use Rattle.credit_ledger.proofs.HalvedLemmas.{same_half, begins_with-itself, begins_with-longer}
use Rattle.credit_ledger.proofs.HalvedLemmas.{begins_with_through}

path_from-run : (up : List ℕ) (last n : ℕ) (s : List Half)
    → path_from up last (replicate n Keep ++ s) ≡ path_from up (last + n) s
path_from-run up last zero s = let e : last ≡ last + 0 = omega arith in ap (λ m. path_from up m s) e
path_from-run up last (suc n) s =
    let e : (last + 1) + n ≡ last + suc n = omega arith in
    path_from-run up (last + 1) n s ∙ ap (λ m. path_from up m s) e

path_from-prefix : (q : List ℕ) (s : List Half) → path_from [] 0 (prefix q ++ s) ≡ path_from q 0 s
path_from-prefix [] s = refl
path_from-prefix (n ∷ q) s =
    let split : prefix (n ∷ q) ++ s ≡ prefix q ++ (replicate n Keep ++ (Give ∷ s)) = simp append_assoc in
    let e : 0 + n ≡ n = omega arith in
    ap (path_from [] 0) split ∙ path_from-prefix q (replicate n Keep ++ (Give ∷ s))
    ∙ path_from-run q 0 n (Give ∷ s)
    ∙ ap (λ m. path_from (m ∷ q) 0 s) e

pub path_of-keeps : (q : List ℕ) (l : ℕ) → path_of (keeps (prefix q) l) ≡ (q, l)
path_of-keeps q l =
    let e : 0 + l ≡ l = omega arith in
    path_from-prefix q (replicate l Keep)
    ∙ ap (path_from q 0) (sym (append-nil (replicate l Keep))) ∙ path_from-run q 0 l [] ∙ ap (λ m. (q, m)) e

keeps-path_from : (up : List ℕ) (last : ℕ) (s : List Half)
    → keeps (prefix (path_from up last s).0) (path_from up last s).1 ≡ keeps (prefix up) last ++ s
keeps-path_from up last [] = sym (append-nil _)
keeps-path_from up last (Keep ∷ s) =
    let run : replicate (last + 1) Keep ≡ replicate last Keep ++ Keep ∷ [] = sym (replicate_more last Keep) in
    let e : keeps (prefix up) (last + 1) ++ s ≡ keeps (prefix up) last ++ Keep ∷ s =
    ap (λ r. (prefix up ++ r) ++ s) run ∙ simp append_assoc in
    keeps-path_from up (last + 1) s ∙ e
keeps-path_from up last (Give ∷ s) =
    let e : keeps (prefix (last ∷ up)) 0 ++ s ≡ keeps (prefix up) last ++ Give ∷ s =
    simp (append_assoc, append-nil) in
    keeps-path_from (last ∷ up) 0 s ∙ e

-- each share has a path
pub keeps-path_of : (s : List Half) → keeps (prefix (path_of s).0) (path_of s).1 ≡ s
keeps-path_of s = keeps-path_from [] 0 s

pub keeps_apart : (p q : List ℕ) (m l : ℕ) → keeps (prefix p) m ≡ keeps (prefix q) l → (p ≡ q) × (m ≡ l)
keeps_apart p q m l e =
    let pairs : ◌≡◌ {A = List ℕ × ℕ} (p, m) (q, l) =
    sym (path_of-keeps p m) ∙ ap path_of e ∙ path_of-keeps q l in
    (ap (λ x. x.0) pairs, ap (λ x. x.1) pairs)

pub keeps-none : (s : List Half) → keeps s 0 ≡ s
keeps-none s = append-nil s

pub prefix_apart : (p q : List ℕ) → prefix p ≡ prefix q → p ≡ q
prefix_apart p q e = (keeps_apart p q 0 0 (ap (λ s. keeps s 0) e)).0

prefix-reverse_on : (runs up : List ℕ) → prefix (reverse runs ++ up) ≡ prefix up ++ start_share runs
prefix-reverse_on [] up = sym (append-nil (prefix up))
prefix-reverse_on (n ∷ runs) up =
    let e : reverse (n ∷ runs) ++ up ≡ reverse runs ++ (n ∷ up) =
    ap (λ s. s ++ up) (reverse-append (n ∷ []) runs) ∙ append_assoc (reverse runs) (n ∷ []) up in
    ap prefix e ∙ prefix-reverse_on runs (n ∷ up) ∙ simp append_assoc

pub finish_share-path : (runs : List ℕ) (last : ℕ)
    → finish_share runs last ≡ keeps (prefix (reverse runs)) last
finish_share-path runs last =
    let e : prefix (reverse runs) ≡ start_share runs =
    ap prefix (sym (append-nil (reverse runs))) ∙ prefix-reverse_on runs [] in
    ap (λ s. keeps s last) (sym e)

pub path_of-finish_share : (runs : List ℕ) (last : ℕ)
    → path_of (finish_share runs last) ≡ (reverse runs, last)
path_of-finish_share runs last = ap path_of (finish_share-path runs last) ∙ path_of-keeps (reverse runs) last

-- a node stands below its parent
pub prefix-parent : (n : ℕ) (up : List ℕ) → begins_with (prefix (n ∷ up)) (prefix up) ≡ true
prefix-parent n up =
    let e : prefix (n ∷ up) ≡ prefix up ++ (replicate n Keep ++ Give ∷ []) =
    append_assoc (prefix up) (replicate n Keep) (Give ∷ []) in
    subst (λ s. begins_with s (prefix up) ≡ true) (sym e)
    (begins_with-longer (prefix up) (replicate n Keep ++ Give ∷ []))

pub prefix-above : (xs up : List ℕ) → begins_with (prefix (xs ++ up)) (prefix up) ≡ true
prefix-above [] up = begins_with-itself (prefix up)
prefix-above (n ∷ xs) up =
    begins_with_through (prefix (n ∷ (xs ++ up))) (prefix (xs ++ up)) (prefix up) (prefix-parent n (xs ++ up))
    (prefix-above xs up)

pub length-keeps : (s : List Half) (m : ℕ) → length (keeps s m) ≡ length s + m
length-keeps s m = length-append s (replicate m Keep) ∙ ap (λ k. length s + k) (length-replicate m Keep)

pub length-prefix : (n : ℕ) (up : List ℕ) → length (prefix (n ∷ up)) ≡ length (prefix up) + n + 1
length-prefix n up =
    length-append (keeps (prefix up) n) (Give ∷ []) ∙ ap (λ k. k + 1) (length-keeps (prefix up) n)

pub keeps-longer : (s : List Half) (m l : ℕ) → l ≤ m → begins_with (keeps s m) (keeps s l) ≡ true
keeps-longer s m zero less =
    subst (λ r. begins_with (keeps s m) r ≡ true) (sym (append-nil s))
    (begins_with-longer s (replicate m Keep))
keeps-longer s zero (suc l) less = absurd (omega arith)
keeps-longer s (suc m) (suc l) less =
    let e : (k : ℕ) → keeps (s ++ Keep ∷ []) k ≡ keeps s (suc k) =
    λ k. append_assoc s (Keep ∷ []) (replicate k Keep) in
    subst (λ r. begins_with r (keeps s (suc l)) ≡ true) (e m)
    (subst (λ r. begins_with (keeps (s ++ Keep ∷ []) m) r ≡ true) (e l)
    (keeps-longer (s ++ Keep ∷ []) m l (omega arith)))

-- what begins a share, begins what it was before its last half, or is the share
pub begins_with-push : (x : List Half) (h : Half) (y : List Half) → begins_with (x ++ h ∷ []) y ≡ true
    → (begins_with x y ≡ true) ⊎ (y ≡ x ++ h ∷ [])
begins_with-push x h [] e = inl refl
begins_with-push [] h (g ∷ []) e =
    inr (ap (λ k. k ∷ []) (sym (same_half h g (and_parts (is_same_half h g) true e).0)))
begins_with-push [] h (g ∷ (k ∷ y)) e = absurd (false≢true (and_parts (is_same_half h g) false e).1)
begins_with-push (k ∷ x) h (g ∷ y) e =
    let parts = and_parts (is_same_half k g) (begins_with (x ++ h ∷ []) y) e in
    let k_g : k ≡ g = same_half k g parts.0 in
    ⊎_elim (λ first. inl (and_from _ _ parts.0 first))
    (λ (second : y ≡ x ++ h ∷ []). inr (ap (λ z. g ∷ z) second ∙ ap (λ z. z ∷ (x ++ h ∷ [])) (sym k_g)))
    (begins_with-push x h y parts.1)

pub begins_with-keeps : (x : List Half) (m : ℕ) (y : List Half) → begins_with (keeps x m) y ≡ true
    → (begins_with x y ≡ true) ⊎ ((j : ℕ) × (j ≤ m) × (y ≡ keeps x j))
begins_with-keeps x zero y e = inl (subst (λ s. begins_with s y ≡ true) (append-nil x) e)
begins_with-keeps x (suc m) y e =
    let shift : (k : ℕ) → keeps (x ++ Keep ∷ []) k ≡ keeps x (suc k) =
    λ k. append_assoc x (Keep ∷ []) (replicate k Keep) in
    ⊎_elim
    (λ (first : begins_with (x ++ Keep ∷ []) y ≡ true).
    ⊎_elim (λ begun. inl begun) (λ (whole : y ≡ x ++ Keep ∷ []). inr (1, omega arith, whole))
    (begins_with-push x Keep y first))
    (λ (second : (j : ℕ) × (j ≤ m) × (y ≡ keeps (x ++ Keep ∷ []) j)).
    inr (suc second.0, omega (arith, second.1), second.2 ∙ shift second.0))
    (begins_with-keeps (x ++ Keep ∷ []) m y (subst (λ s. begins_with s y ≡ true) (sym (shift m)) e))

pub begins_with-empty : (y : List Half) → begins_with [] y ≡ true → y ≡ []
begins_with-empty [] e = refl
begins_with-empty (h ∷ y) e = absurd (false≢true e)

-- what begins a share stands at its own node or at one above
pub data IsBegunBy (p : List ℕ) (m : ℕ) (q : List ℕ) (l : ℕ) : Type 0 where
  here : q ≡ p → l ≤ m → IsBegunBy p m q l
  higher : (n : ℕ) → begins_with (prefix p) (prefix (n ∷ q)) ≡ true → l ≤ n → IsBegunBy p m q l

IsBegunBy-lift : (n : ℕ) (p : List ℕ) (m : ℕ) (q : List ℕ) (l : ℕ) → IsBegunBy p n q l
    → IsBegunBy (n ∷ p) m q l
IsBegunBy-lift n p m q l (here same less) =
    higher n
    (subst (λ r. begins_with (prefix (n ∷ p)) (prefix (n ∷ r)) ≡ true) (sym same)
    (begins_with-itself (prefix (n ∷ p))))
    less
IsBegunBy-lift n p m q l (higher k begun less) =
    higher k (begins_with_through (prefix (n ∷ p)) (prefix p) (prefix (k ∷ q)) (prefix-parent n p) begun) less

pub IsBegunBy-node : (p : List ℕ) (m : ℕ) (q : List ℕ) (l : ℕ)
    → begins_with (prefix p) (keeps (prefix q) l) ≡ true → IsBegunBy p m q l
IsBegunBy-node [] m q l e =
    let whole : keeps (prefix q) l ≡ keeps (prefix []) 0 = begins_with-empty (keeps (prefix q) l) e in
    let same = keeps_apart q [] l 0 whole in here same.0 (omega (arith, same.1))
IsBegunBy-node (n ∷ p) m q l e =
    ⊎_elim
    (λ (first : begins_with (keeps (prefix p) n) (keeps (prefix q) l) ≡ true).
    IsBegunBy-lift n p m q l
    (⊎_elim (λ begun. IsBegunBy-node p n q l begun)
    (λ (run : (j : ℕ) × (j ≤ n) × (keeps (prefix q) l ≡ keeps (prefix p) j)).
    let same = keeps_apart q p l run.0 run.2 in here same.0 (omega (arith, same.1, run.1)))
    (begins_with-keeps (prefix p) n (keeps (prefix q) l) first)))
    (λ (whole : keeps (prefix q) l ≡ prefix (n ∷ p)).
    let same = keeps_apart q (n ∷ p) l 0 (whole ∙ sym (keeps-none (prefix (n ∷ p)))) in
    here same.0 (omega (arith, same.1)))
    (begins_with-push (keeps (prefix p) n) Give (keeps (prefix q) l) e)

pub IsBegunBy-share : (p : List ℕ) (m : ℕ) (q : List ℕ) (l : ℕ)
    → begins_with (keeps (prefix p) m) (keeps (prefix q) l) ≡ true → IsBegunBy p m q l
IsBegunBy-share p m q l e =
    ⊎_elim (λ begun. IsBegunBy-node p m q l begun)
    (λ (run : (j : ℕ) × (j ≤ m) × (keeps (prefix q) l ≡ keeps (prefix p) j)).
    let same = keeps_apart q p l run.0 run.2 in here same.0 (omega (arith, same.1, run.1)))
    (begins_with-keeps (prefix p) m (keeps (prefix q) l) e)

-- a node that begins another one stands above it
pub data IsAbove (up p : List ℕ) : Type 0 where
  above : (xs : List ℕ) → p ≡ xs ++ up → IsAbove up p

IsAbove-lift : (n : ℕ) (p up : List ℕ) → IsAbove up p → IsAbove up (n ∷ p)
IsAbove-lift n p up (above xs e) = above (n ∷ xs) (ap (λ q. n ∷ q) e)

pub IsAbove-prefix : (p up : List ℕ) → begins_with (prefix p) (prefix up) ≡ true → IsAbove up p
IsAbove-prefix [] up e = above [] (sym (prefix_apart up [] (begins_with-empty (prefix up) e)))
IsAbove-prefix (n ∷ p) up e =
    ⊎_elim
    (λ (first : begins_with (keeps (prefix p) n) (prefix up) ≡ true).
    ⊎_elim
    (λ begun. IsAbove-lift n p up (IsAbove-prefix p up begun))
    (λ (run : (j : ℕ) × (j ≤ n) × (prefix up ≡ keeps (prefix p) j)).
    let same = keeps_apart up p 0 run.0 (keeps-none (prefix up) ∙ run.2) in
    above (n ∷ []) (ap (λ q. n ∷ q) (sym same.0)))
    (begins_with-keeps (prefix p) n (prefix up) first))
    (λ whole. above [] (sym (prefix_apart up (n ∷ p) whole)))
    (begins_with-push (keeps (prefix p) n) Give (prefix up) e)
