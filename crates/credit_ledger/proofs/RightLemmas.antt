-- Each step of the lock keeps what its rule says of shares, and of the seats that were taken in.
use Rattle.std.proofs.Common.{◌≡◌, ◌≢◌, ◌⊎◌, ◌∙◌, ℕ, zero, suc, ◌+◌, ◌<◌, true, false, List, [], ◌∷◌}
use Rattle.std.proofs.Common.{◌++◌, length, set, refl, sym, ap, subst, inl, inr, ⊎_elim, arith}
use Rattle.std.proofs.Common.{length-append}
use Rattle.std.specs.Prelude.{map, ◌==◌, slice_index_or, cond}
use Rattle.std.specs.List.{flat_map}
use Rattle.std.proofs.lemmas.Bool.{cases_Bool, cases_eq, false≢true, or_cases, or_left, or_right, eq-eqb}
use Rattle.std.proofs.lemmas.List.{length-map}
use mathlib.Core.Option.{some, some-ne-none, some-injective}
use lib.ListN.{get_elem?}
use Rattle.atomic_table.proofs.Lists.{at_set, at_longer, set_here, set_else}
use Rattle.credit_ledger.specs.declared.share.Half.{Half}
use Rattle.credit_ledger.specs.declared.share.Half.TheVariants.{Keep, Give}
use Rattle.credit_ledger.specs.Shares.{overlaps, keep_half, give_half}
use Rattle.credit_ledger.specs.declared.view.Step.{Step}
use Rattle.credit_ledger.specs.declared.view.Claim.{Claim}
use Rattle.credit_ledger.specs.declared.view.View.{View}
use Rattle.credit_ledger.specs.Seats.{seat_calls, StartsWith, newcomer, spent, claim_of, claims_of, AreClaims}
use Rattle.credit_ledger.specs.Seats.{AreOfOthers, AreSeatsApart, IsClaimed, AreAll, is_enter, has_enter}
use Rattle.credit_ledger.specs.Seats.{AreEntersOf, IsShareOf, IsAnsweredFor, AreSharesKept}
use Rattle.credit_ledger.proofs.ShareLemmas.{overlaps-swap, overlaps-shorter, halves-apart}
use Rattle.credit_ledger.proofs.ShareLemmas.{share-append, share-map, overlapped}
use Rattle.credit_ledger.proofs.RuleLemmas.{below, snoc_at, starts-more, calls-own, calls-other}

-- ---- what was taken in

pub claimed-left : (n : ℕ) (xs ys : List Claim) → IsClaimed n xs → IsClaimed n (xs ++ ys)
claimed-left n [] ys f = absurd f
claimed-left n (x ∷ xs) ys (inl is) = inl is
claimed-left n (x ∷ xs) ys (inr f) = inr (claimed-left n xs ys f)

pub claimed-right : (n : ℕ) (xs ys : List Claim) → IsClaimed n ys → IsClaimed n (xs ++ ys)
claimed-right n [] ys f = f
claimed-right n (x ∷ xs) ys f = inr (claimed-right n xs ys f)

pub claimed-append : (n : ℕ) (xs ys : List Claim) → IsClaimed n (xs ++ ys) → IsClaimed n xs ⊎ IsClaimed n ys
claimed-append n [] ys f = inr f
claimed-append n (x ∷ xs) ys (inl is) = inl (inl is)
claimed-append n (x ∷ xs) ys (inr f) = ⊎_elim (λ t. inl (inr t)) (λ t. inr t) (claimed-append n xs ys f)

pub claims-append : (h : List Step) (xs ys : List Claim) → AreClaims h xs → AreClaims h ys
    → AreClaims h (xs ++ ys)
claims-append h [] ys f g = g
claims-append h (x ∷ xs) ys f g = (f.0, claims-append h xs ys f.1 g)

others-append : (n : ℕ) (xs ys : List Claim) → AreOfOthers n xs → AreOfOthers n ys → AreOfOthers n (xs ++ ys)
others-append n [] ys f g = g
others-append n (x ∷ xs) ys f g = (f.0, others-append n xs ys f.1 g)

others-of : (n : ℕ) (xs : List Claim) → (IsClaimed n xs → ⊥) → AreOfOthers n xs
others-of n [] f = tt
others-of n (x ∷ xs) f = ((λ is. f (inl is)), others-of n xs (λ t. f (inr t)))

pub not-claimed : (n : ℕ) (xs : List Claim) → AreOfOthers n xs → IsClaimed n xs → ⊥
not-claimed n [] f g = g
not-claimed n (x ∷ xs) f (inl is) = f.0 is
not-claimed n (x ∷ xs) f (inr g) = not-claimed n xs f.1 g

apart-append : (xs ys : List Claim) → AreSeatsApart xs → AreSeatsApart ys
    → ((k : ℕ) → IsClaimed k xs → IsClaimed k ys → ⊥) → AreSeatsApart (xs ++ ys)
apart-append [] ys f g never = g
apart-append (x ∷ xs) ys f g never = (
  others-append x.number xs ys f.0 (others-of x.number ys (never x.number (inl refl))),
  apart-append xs ys f.1 g (λ k t. never k (inr t)),
)

-- the history goes on with a call of a seat that was not taken in
pub claims-more : (h : List Step) (s : Step) (claims : List Claim) → AreOfOthers s.seat claims
    → AreClaims h claims → AreClaims (h ++ s ∷ []) claims
claims-more h s [] others f = tt
claims-more h s (c ∷ claims) others f = (
  (starts-more h c.seen s f.0.0, calls-other c.number h s (λ same. others.0 (sym same)) ∙ f.0.1),
  claims-more h s claims others.1 f.1,
)

-- ---- Enters

any-append : (xs ys : List Step) → has_enter (xs ++ ys) ≡ true → (has_enter xs ≡ true) ⊎ (has_enter ys ≡ true)
any-append [] ys e = inr e
any-append (x ∷ xs) ys e =
    ⊎_elim (λ here. inl (or_left _ _ here))
    (λ there. ⊎_elim (λ f. inl (or_right (is_enter x.call) _ f)) (λ f. inr f) (any-append xs ys there))
    (or_cases (is_enter x.call) (has_enter (xs ++ ys)) e)

-- one more call: a seat with an Enter had one before, or this call is its Enter
enter-more : (h : List Step) (s : Step) (n : ℕ) → has_enter (seat_calls n (h ++ s ∷ [])) ≡ true
    → (has_enter (seat_calls n h) ≡ true) ⊎ ((s.seat ≡ n) × (is_enter s.call ≡ true))
enter-more h s n e = by (cases_eq s.seat n)
  where
    by : (s.seat ≡ n) ⊎ (s.seat ≢ n)
        → (has_enter (seat_calls n h) ≡ true) ⊎ ((s.seat ≡ n) × (is_enter s.call ≡ true))
    by (inl is) =
        ⊎_elim (λ old. inl old)
        (λ new.
        inr (
          is,
          ⊎_elim (λ f. f) (λ f. absurd (false≢true f)) (or_cases (is_enter s.call) false new),
        ))
        (any-append (seat_calls n h) (s ∷ []) (sym (ap has_enter (calls-own n h s is)) ∙ e))
    by (inr other) = inl (sym (ap has_enter (calls-other n h s other)) ∙ e)

-- ---- the steps

-- the first seat
pub rights-begin : AreSharesKept [] (newcomer ∷ [])
rights-begin = record {
  apart = λ m n v w s t em en sv tw over.
      let ov = only m v em in
      let ow = only n w en in (
        ov.0 ∙ sym ow.0,
        whole s (subst (λ (z : View). IsShareOf s z.shares) (sym ov.1) sv)
            ∙ sym (whole t (subst (λ (z : View). IsShareOf t z.shares) (sym ow.1) tw)),
      );
  entered = λ n e. absurd (false≢true e);
  claims = λ n v e.
      subst (λ (z : View). AreClaims [] z.claims × AreSeatsApart z.claims) (only n v e).1 (tt, tt);
  takers = λ m n k v w em en f g. (only m v em).0 ∙ sym (only n w en).0;
}
  where
    only : (n : ℕ) (v : View) → get_elem? (newcomer ∷ []) n ≡ some v → (n ≡ 0) × (newcomer ≡ v)
    only zero v e = (refl, some-injective newcomer v e)
    only (suc n) v e = absurd (some-ne-none v (sym e))

    whole : (s : List Half) → IsShareOf s ([] ∷ []) → s ≡ []
    whole s (inl is) = sym is
    whole s (inr f) = absurd f

-- the view of a seat changes, which keeps its shares and what it has taken in
pub rights-same : (h : List Step) (views : List View) (id : ℕ) (v w : View) → AreSharesKept h views
    → get_elem? views id ≡ some v → w.shares ≡ v.shares → w.claims ≡ v.claims
    → AreSharesKept h (set views id w)
rights-same h views id v w k at shares claims = record {
  apart = λ m n x y s t em en sx ty over.
      let ox = was m x em in
      let oy = was n y en in
      k.apart m n ox.0 oy.0 s t ox.1 oy.1 (subst (IsShareOf s) ox.2 sx) (subst (IsShareOf t) oy.2 ty) over;
  entered = λ n e. answered n (k.entered n e);
  claims = λ n x e.
      let ox = was n x e in
      subst (λ cs. AreClaims h cs × AreSeatsApart cs) (sym ox.3) (k.claims n ox.0 ox.1);
  takers = λ m n c x y em en f g.
      let ox = was m x em in
      let oy = was n y en in
      k.takers m n c ox.0 oy.0 ox.1 oy.1 (subst (IsClaimed c) ox.3 f) (subst (IsClaimed c) oy.3 g);
}
  where
    was : (n : ℕ) (x : View) → get_elem? (set views id w) n ≡ some x
        → (o : View) × (get_elem? views n ≡ some o) × (x.shares ≡ o.shares) × (x.claims ≡ o.claims)
    was n x e =
        ⊎_elim
        (λ (is : (n ≡ id) × (w ≡ x)). (
          v,
          ap (get_elem? views) is.0 ∙ at,
          ap (λ (z : View). z.shares) (sym is.1) ∙ shares,
          ap (λ (z : View). z.claims) (sym is.1) ∙ claims,
        ))
        (λ (other : (n ≢ id) × (get_elem? views n ≡ some x)). (x, other.1, refl, refl))
        (at_set views id n w x e)

    answered : (n : ℕ) → IsAnsweredFor views n → IsAnsweredFor (set views id w) n
    answered n by = here (cases_eq by.0 id)
      where
        here : (by.0 ≡ id) ⊎ (by.0 ≢ id) → IsAnsweredFor (set views id w) n
        here (inl is) =
            let same : v ≡ by.1 = some-injective v by.1 (sym at ∙ ap (get_elem? views) (sym is) ∙ by.2) in (
              id,
              w,
              set_here views id w (below views id v at),
              subst (λ l. 0 < length l) (sym (shares ∙ ap (λ (z : View). z.shares) same)) by.3,
              ⊎_elim (λ (me : by.0 ≡ n). inl (sym is ∙ me))
                  (λ (f : IsClaimed n by.1.claims).
                  inr (subst (IsClaimed n) (sym (claims ∙ ap (λ (z : View). z.claims) same)) f))
                  by.4,
            )
        here (inr other) = (by.0, by.1, set_else views id by.0 w other ∙ by.2, by.3, by.4)

-- a new seat comes, which has no share
pub rights-longer : (h : List Step) (views : List View) (w : View) → AreSharesKept h views → w.shares ≡ []
    → w.claims ≡ [] → AreSharesKept h (views ++ w ∷ [])
rights-longer h views w k shares claims = record {
  apart = λ m n x y s t em en sx ty over.
      k.apart m n x y s t (old m x s em sx) (old n y t en ty) sx ty over;
  entered = λ n e.
      let by = k.entered n e in (by.0, by.1, at_longer views (w ∷ []) by.0 by.1 by.2, by.3, by.4);
  claims = λ n x e.
      ⊎_elim (λ (there : get_elem? views n ≡ some x). k.claims n x there)
      (λ (new : (w ≡ x) × (n ≡ length views)).
      subst (λ cs. AreClaims h cs × AreSeatsApart cs)
      (sym claims ∙ ap (λ (z : View). z.claims) new.0) (tt, tt))
      (snoc_at views w n x e);
  takers = λ m n c x y em en f g. k.takers m n c x y (holds m x c em f) (holds n y c en g) f g;
}
  where
    old : (n : ℕ) (x : View) (s : List Half) → get_elem? (views ++ w ∷ []) n ≡ some x → IsShareOf s x.shares
        → get_elem? views n ≡ some x
    old n x s e has =
        ⊎_elim (λ (there : get_elem? views n ≡ some x). there)
        (λ (new : (w ≡ x) × (n ≡ length views)).
        absurd (subst (IsShareOf s) (ap (λ (z : View). z.shares) (sym new.0) ∙ shares) has))
        (snoc_at views w n x e)

    holds : (n : ℕ) (x : View) (c : ℕ) → get_elem? (views ++ w ∷ []) n ≡ some x → IsClaimed c x.claims
        → get_elem? views n ≡ some x
    holds n x c e has =
        ⊎_elim (λ (there : get_elem? views n ≡ some x). there)
        (λ (new : (w ≡ x) × (n ≡ length views)).
        absurd (subst (IsClaimed c) (ap (λ (z : View). z.claims) (sym new.0) ∙ claims) has))
        (snoc_at views w n x e)

-- a seat without shares is spent
pub rights-spent : (h : List Step) (views : List View) (other : ℕ) (w : View) → AreSharesKept h views
    → get_elem? views other ≡ some w → w.shares ≡ [] → AreSharesKept h (set views other spent)
rights-spent h views other w k at none = record {
  apart = λ m n x y s t em en sx ty over.
      k.apart m n x y s t (old m x s em sx) (old n y t en ty) sx ty over;
  entered = λ n e. answered n (k.entered n e);
  claims = λ n x e.
      ⊎_elim
      (λ (is : (n ≡ other) × (spent ≡ x)).
      subst (λ (z : View). AreClaims h z.claims × AreSeatsApart z.claims) is.1 (tt, tt))
      (λ (else : (n ≢ other) × (get_elem? views n ≡ some x)). k.claims n x else.1)
      (at_set views other n spent x e);
  takers = λ m n c x y em en f g. k.takers m n c x y (holds m x c em f) (holds n y c en g) f g;
}
  where
    old : (n : ℕ) (x : View) (s : List Half) → get_elem? (set views other spent) n ≡ some x
        → IsShareOf s x.shares → get_elem? views n ≡ some x
    old n x s e has =
        ⊎_elim
        (λ (is : (n ≡ other) × (spent ≡ x)).
        absurd (subst (λ (z : View). IsShareOf s z.shares) (sym is.1) has))
        (λ (else : (n ≢ other) × (get_elem? views n ≡ some x)). else.1)
        (at_set views other n spent x e)

    holds : (n : ℕ) (x : View) (c : ℕ) → get_elem? (set views other spent) n ≡ some x
        → IsClaimed c x.claims → get_elem? views n ≡ some x
    holds n x c e has =
        ⊎_elim
        (λ (is : (n ≡ other) × (spent ≡ x)).
        absurd (subst (λ (z : View). IsClaimed c z.claims) (sym is.1) has))
        (λ (else : (n ≢ other) × (get_elem? views n ≡ some x)). else.1)
        (at_set views other n spent x e)

    answered : (n : ℕ) → IsAnsweredFor views n → IsAnsweredFor (set views other spent) n
    answered n by = here (cases_eq by.0 other)
      where
        here : (by.0 ≡ other) ⊎ (by.0 ≢ other) → IsAnsweredFor (set views other spent) n
        here (inl is) =
            let same : w ≡ by.1 = some-injective w by.1 (sym at ∙ ap (get_elem? views) (sym is) ∙ by.2) in
            let length_is : length by.1.shares ≡ 0 =
            ap length (ap (λ (z : View). z.shares) (sym same) ∙ none) in
            absurd (omega (arith, length_is, by.3))
        here (inr else) = (by.0, by.1, set_else views other by.0 spent else ∙ by.2, by.3, by.4)

-- a seat is split: either has one half of each share
pub rights-split : (h : List Step) (views : List View) (id : ℕ) (v left right : View) → AreSharesKept h views
    → get_elem? views id ≡ some v → left.shares ≡ map keep_half v.shares → left.claims ≡ v.claims
    → right.shares ≡ map give_half v.shares → right.claims ≡ []
    → AreSharesKept h (set views id left ++ right ∷ [])
rights-split h views id v left right k at kept same given none = record {
  apart = λ m n x y s t em en sx ty over.
      let ox = was m x s em sx in
      let oy = was n y t en ty in
      let there = k.apart ox.0 oy.0 ox.1 oy.1 ox.2 oy.2 ox.3 oy.3 ox.4 oy.4
      (longer s ox.2 t oy.2 over (short m ox.0 ox.2 s ox.5) (short n oy.0 oy.2 t oy.5)) in
      one m ox.0 ox.2 s n oy.0 oy.2 t there.0 there.1 ox.5 oy.5 over;
  entered = λ n e. answered n (k.entered n e);
  claims = λ n x e. claimed n x (cases n x e);
  takers = λ m n c x y em en f g.
      let ox = holder m x c em f in
      let oy = holder n y c en g in
      k.takers m n c ox.0 oy.0 ox.1 oy.1 ox.2 oy.2;
}
  where
    -- the share of one of the two lists of halves, and that of which it is a half, or the share itself
    Came : ℕ → ℕ → List Half → List Half → Type 0
    Came m o old new =
        ((m ≡ o) × (o ≢ id) × (old ≡ new))
        ⊎ (((m ≡ id) × (o ≡ id) × (keep_half old ≡ new))
        ⊎ ((m ≡ length (set views id left)) × (o ≡ id) × (give_half old ≡ new)))

    cases : (n : ℕ) (x : View) → get_elem? (set views id left ++ right ∷ []) n ≡ some x
        → ((right ≡ x) × (n ≡ length (set views id left)))
        ⊎ (((n ≡ id) × (left ≡ x)) ⊎ ((n ≢ id) × (get_elem? views n ≡ some x)))
    cases n x e =
        ⊎_elim (λ (there : get_elem? (set views id left) n ≡ some x). inr (at_set views id n left x there))
        (λ (new : (right ≡ x) × (n ≡ length (set views id left))). inl new)
        (snoc_at (set views id left) right n x e)

    was : (m : ℕ) (x : View) (s : List Half) → get_elem? (set views id left ++ right ∷ []) m ≡ some x
        → IsShareOf s x.shares
        → (o : ℕ) × (y : View) × (t : List Half) × (get_elem? views o ≡ some y) × IsShareOf t y.shares
        × Came m o t s
    was m x s e has = by (cases m x e)
      where
        by : ((right ≡ x) × (m ≡ length (set views id left)))
            ⊎ (((m ≡ id) × (left ≡ x)) ⊎ ((m ≢ id) × (get_elem? views m ≡ some x)))
            → (o : ℕ) × (y : View) × (t : List Half) × (get_elem? views o ≡ some y) × IsShareOf t y.shares
            × Came m o t s
        by (inl new) =
            let half = share-map give_half s v.shares
            (subst (IsShareOf s) (ap (λ (z : View). z.shares) (sym new.0) ∙ given) has) in
            (id, v, half.0, at, half.1, inr (inr (new.1, refl, half.2)))
        by (inr (inl is)) =
            let half = share-map keep_half s v.shares
            (subst (IsShareOf s) (ap (λ (z : View). z.shares) (sym is.1) ∙ kept) has) in
            (id, v, half.0, at, half.1, inr (inl (is.0, refl, half.2)))
        by (inr (inr else)) = (m, x, s, else.1, has, inl (refl, else.0, refl))

    short : (m o : ℕ) (old new : List Half) → Came m o old new → (more : List Half) × (new ≡ old ++ more)
    short m o old new (inl same) = ([], sym same.2 ∙ sym (nil old))
      where
        nil : (l : List Half) → l ++ [] ≡ l
        nil [] = refl
        nil (x ∷ l) = ap (λ r. x ∷ r) (nil l)
    short m o old new (inr (inl half)) = (Keep ∷ [], sym half.2)
    short m o old new (inr (inr half)) = (Give ∷ [], sym half.2)

    longer : (s old t other : List Half) → overlaps s t ≡ true → (x : List Half) × (s ≡ old ++ x)
        → (y : List Half) × (t ≡ other ++ y) → overlaps old other ≡ true
    longer s old t other over x y =
        overlaps-swap other old
        (overlaps-shorter other old x.0
        (overlaps-swap (old ++ x.0) other
        (overlaps-shorter (old ++ x.0) other y.0
        (subst (λ l. overlaps (old ++ x.0) l ≡ true) y.1 (subst (λ l. overlaps l t ≡ true) x.1 over)))))

    one : (m o : ℕ) (old new : List Half) (n p : ℕ) (other next : List Half) → o ≡ p → old ≡ other
        → Came m o old new → Came n p other next → overlaps new next ≡ true → (m ≡ n) × (new ≡ next)
    one m o old new n p other next same alike (inl x) (inl y) over =
        (x.0 ∙ same ∙ sym y.0, sym x.2 ∙ alike ∙ y.2)
    one m o old new n p other next same alike (inl x) (inr (inl y)) over = absurd (x.1 (same ∙ y.1))
    one m o old new n p other next same alike (inl x) (inr (inr y)) over = absurd (x.1 (same ∙ y.1))
    one m o old new n p other next same alike (inr (inl x)) (inl y) over = absurd (y.1 (sym same ∙ x.1))
    one m o old new n p other next same alike (inr (inl x)) (inr (inl y)) over =
        (x.0 ∙ sym y.0, sym x.2 ∙ ap keep_half alike ∙ y.2)
    one m o old new n p other next same alike (inr (inl x)) (inr (inr y)) over =
        absurd (false≢true (halves-apart old
        (subst (λ l. overlaps (keep_half old) l ≡ true) (sym y.2 ∙ ap give_half (sym alike))
        (subst (λ l. overlaps l next ≡ true) (sym x.2) over))))
    one m o old new n p other next same alike (inr (inr x)) (inl y) over = absurd (y.1 (sym same ∙ x.1))
    one m o old new n p other next same alike (inr (inr x)) (inr (inl y)) over =
        absurd (false≢true (halves-apart old
        (overlaps-swap (give_half old) (keep_half old)
        (subst (λ l. overlaps (give_half old) l ≡ true) (sym y.2 ∙ ap keep_half (sym alike))
        (subst (λ l. overlaps l next ≡ true) (sym x.2) over)))))
    one m o old new n p other next same alike (inr (inr x)) (inr (inr y)) over =
        (x.0 ∙ sym y.0, sym x.2 ∙ ap give_half alike ∙ y.2)

    answered : (n : ℕ) → IsAnsweredFor views n → IsAnsweredFor (set views id left ++ right ∷ []) n
    answered n by = here (cases_eq by.0 id)
      where
        here : (by.0 ≡ id) ⊎ (by.0 ≢ id) → IsAnsweredFor (set views id left ++ right ∷ []) n
        here (inl is) =
            let alike : v ≡ by.1 = some-injective v by.1 (sym at ∙ ap (get_elem? views) (sym is) ∙ by.2) in
            let many : length left.shares ≡ length by.1.shares =
            ap length kept ∙ length-map v.shares keep_half ∙ ap (λ (z : View). length z.shares) alike in (
              id,
              left,
              at_longer (set views id left) (right ∷ []) id left
                  (set_here views id left (below views id v at)),
              omega (arith, many, by.3),
              ⊎_elim (λ (me : by.0 ≡ n). inl (sym is ∙ me))
                  (λ (f : IsClaimed n by.1.claims).
                  inr (subst (IsClaimed n) (sym (same ∙ ap (λ (z : View). z.claims) alike)) f))
                  by.4,
            )
        here (inr else) = (
          by.0,
          by.1,
          at_longer (set views id left) (right ∷ []) by.0 by.1 (set_else views id by.0 left else ∙ by.2),
          by.3,
          by.4,
        )

    claimed : (n : ℕ) (x : View)
        → ((right ≡ x) × (n ≡ length (set views id left)))
        ⊎ (((n ≡ id) × (left ≡ x)) ⊎ ((n ≢ id) × (get_elem? views n ≡ some x)))
        → AreClaims h x.claims × AreSeatsApart x.claims
    claimed n x (inl new) =
        subst (λ cs. AreClaims h cs × AreSeatsApart cs)
        (sym none ∙ ap (λ (z : View). z.claims) new.0) (tt, tt)
    claimed n x (inr (inl is)) =
        subst (λ cs. AreClaims h cs × AreSeatsApart cs)
        (sym same ∙ ap (λ (z : View). z.claims) is.1) (k.claims id v at)
    claimed n x (inr (inr else)) = k.claims n x else.1

    holder : (n : ℕ) (x : View) (c : ℕ) → get_elem? (set views id left ++ right ∷ []) n ≡ some x
        → IsClaimed c x.claims → (o : View) × (get_elem? views n ≡ some o) × IsClaimed c o.claims
    holder n x c e f = by (cases n x e)
      where
        by : ((right ≡ x) × (n ≡ length (set views id left)))
            ⊎ (((n ≡ id) × (left ≡ x)) ⊎ ((n ≢ id) × (get_elem? views n ≡ some x)))
            → (o : View) × (get_elem? views n ≡ some o) × IsClaimed c o.claims
        by (inl new) =
            absurd (subst (IsClaimed c) (ap (λ (z : View). z.claims) (sym new.0) ∙ none) f)
        by (inr (inl is)) = (
          v,
          ap (get_elem? views) is.0 ∙ at,
          subst (IsClaimed c) (ap (λ (z : View). z.claims) (sym is.1) ∙ same) f,
        )
        by (inr (inr else)) = (x, else.1, f)

-- a seat takes in another one
pub rights-joined : (h : List Step) (views : List View) (id other : ℕ) (v w both : View)
    → AreSharesKept h views → get_elem? views id ≡ some v → get_elem? views other ≡ some w → other ≢ id
    → both.shares ≡ w.shares ++ v.shares → both.claims ≡ claims_of w ++ v.claims
    → w.number ≡ other → StartsWith h w.seen → seat_calls w.number h ≡ w.own
    → ((n : ℕ) (u : View) → get_elem? views n ≡ some u → AreOfOthers other u.claims)
    → AreSharesKept h (set (set views id both) other spent)
rights-joined h views id other v w both k at there unlike shares claims number seen own live = record {
  apart = λ m n x y s t em en sx ty over.
      let ox = was m x s em sx in
      let oy = was n y t en ty in
      let same = k.apart ox.0 oy.0 ox.1 oy.1 s t ox.2 oy.2 ox.3 oy.3 over in
      (one m ox.0 n oy.0 same.0 ox.4 oy.4, same.1);
  entered = λ n e. answered n (k.entered n e);
  claims = λ n x e. claimed n x (cases n x e);
  takers = λ m n c x y em en f g. taker m n c x y (holder m x c em f) (holder n y c en g);
}
  where
    -- whose share it was before
    Came : ℕ → ℕ → Type 0
    Came m o = ((m ≡ o) × (o ≢ other)) ⊎ ((m ≡ id) × (o ≡ other))

    cases : (n : ℕ) (x : View) → get_elem? (set (set views id both) other spent) n ≡ some x
        → (spent ≡ x) ⊎ (((n ≡ id) × (both ≡ x)) ⊎ ((n ≢ id) × (n ≢ other) × (get_elem? views n ≡ some x)))
    cases n x e =
        ⊎_elim (λ (is : (n ≡ other) × (spent ≡ x)). inl is.1)
        (λ (else : (n ≢ other) × (get_elem? (set views id both) n ≡ some x)).
        inr
        (⊎_elim (λ (is : (n ≡ id) × (both ≡ x)). inl is)
        (λ (old : (n ≢ id) × (get_elem? views n ≡ some x)). inr (old.0, else.0, old.1))
        (at_set views id n both x else.1)))
        (at_set (set views id both) other n spent x e)

    was : (m : ℕ) (x : View) (s : List Half) → get_elem? (set (set views id both) other spent) m ≡ some x
        → IsShareOf s x.shares
        → (o : ℕ) × (y : View) × (get_elem? views o ≡ some y) × IsShareOf s y.shares × Came m o
    was m x s e has = by (cases m x e)
      where
        by : (spent ≡ x) ⊎ (((m ≡ id) × (both ≡ x))
            ⊎ ((m ≢ id) × (m ≢ other) × (get_elem? views m ≡ some x)))
            → (o : ℕ) × (y : View) × (get_elem? views o ≡ some y) × IsShareOf s y.shares × Came m o
        by (inl is) = absurd (subst (λ (z : View). IsShareOf s z.shares) (sym is) has)
        by (inr (inl is)) =
            ⊎_elim (λ (f : IsShareOf s w.shares). (other, w, there, f, inr (is.0, refl)))
            (λ (f : IsShareOf s v.shares). (id, v, at, f, inl (is.0, λ same. unlike (sym same))))
            (share-append s w.shares v.shares
            (subst (IsShareOf s) (ap (λ (z : View). z.shares) (sym is.1) ∙ shares) has))
        by (inr (inr else)) = (m, x, else.2, has, inl (refl, else.1))

    one : (m o n p : ℕ) → o ≡ p → Came m o → Came n p → m ≡ n
    one m o n p same (inl x) (inl y) = x.0 ∙ same ∙ sym y.0
    one m o n p same (inl x) (inr y) = absurd (x.1 (same ∙ y.1))
    one m o n p same (inr x) (inl y) = absurd (y.1 (sym same ∙ x.1))
    one m o n p same (inr x) (inr y) = x.0 ∙ sym y.0

    both_at : get_elem? (set (set views id both) other spent) id ≡ some both
    both_at =
        set_else (set views id both) other id spent (λ same. unlike (sym same))
        ∙ set_here views id both (below views id v at)

    answered : (n : ℕ) → IsAnsweredFor views n → IsAnsweredFor (set (set views id both) other spent) n
    answered n by = here (cases_eq by.0 other) (cases_eq by.0 id)
      where
        here : (by.0 ≡ other) ⊎ (by.0 ≢ other) → (by.0 ≡ id) ⊎ (by.0 ≢ id)
            → IsAnsweredFor (set (set views id both) other spent) n
        here (inl is) second =
            let alike : w ≡ by.1 = some-injective w by.1 (sym there ∙ ap (get_elem? views) (sym is) ∙ by.2) in
            let many : length both.shares ≡ length by.1.shares + length v.shares =
            ap length shares ∙ length-append w.shares v.shares
            ∙ ap (λ (z : View). length z.shares + length v.shares) alike in (
              id,
              both,
              both_at,
              omega (arith, many, by.3),
              inr (subst (IsClaimed n) (sym claims)
                  (⊎_elim (λ (me : by.0 ≡ n). inl (number ∙ sym is ∙ me))
                  (λ (f : IsClaimed n by.1.claims).
                  inr
                  (claimed-left n w.claims v.claims
                  (subst (λ (z : View). IsClaimed n z.claims) (sym alike) f)))
                  by.4)),
            )
        here (inr else) (inl is) =
            let alike : v ≡ by.1 = some-injective v by.1 (sym at ∙ ap (get_elem? views) (sym is) ∙ by.2) in
            let many : length both.shares ≡ length w.shares + length by.1.shares =
            ap length shares ∙ length-append w.shares v.shares
            ∙ ap (λ (z : View). length w.shares + length z.shares) alike in (
              id,
              both,
              both_at,
              omega (arith, many, by.3),
              ⊎_elim (λ (me : by.0 ≡ n). inl (sym is ∙ me))
                  (λ (f : IsClaimed n by.1.claims).
                  inr (subst (IsClaimed n) (sym claims)
                  (claimed-right n (claims_of w) v.claims
                  (subst (λ (z : View). IsClaimed n z.claims) (sym alike) f))))
                  by.4,
            )
        here (inr else) (inr apart) = (
          by.0,
          by.1,
          set_else (set views id both) other by.0 spent else ∙ set_else views id by.0 both apart ∙ by.2,
          by.3,
          by.4,
        )

    never : (c : ℕ) → IsClaimed c (claims_of w) → IsClaimed c v.claims → ⊥
    never c (inl is) f =
        not-claimed c v.claims (subst (λ (o : ℕ). AreOfOthers o v.claims) (sym number ∙ is) (live id v at)) f
    never c (inr g) f = unlike (k.takers other id c w v there at g f)

    claimed : (n : ℕ) (x : View)
        → (spent ≡ x) ⊎ (((n ≡ id) × (both ≡ x)) ⊎ ((n ≢ id) × (n ≢ other) × (get_elem? views n ≡ some x)))
        → AreClaims h x.claims × AreSeatsApart x.claims
    claimed n x (inl is) =
        subst (λ (z : View). AreClaims h z.claims × AreSeatsApart z.claims) is (tt, tt)
    claimed n x (inr (inl is)) =
        let mine = k.claims id v at in
        let theirs = k.claims other w there in
        subst (λ cs. AreClaims h cs × AreSeatsApart cs) (sym claims ∙ ap (λ (z : View). z.claims) is.1) (
          claims-append h (claims_of w) v.claims ((seen, own), theirs.0) mine.0,
          apart-append (claims_of w) v.claims
              (subst (λ (o : ℕ). AreOfOthers o w.claims) (sym number) (live other w there), theirs.1)
              mine.1 never,
        )
    claimed n x (inr (inr else)) = k.claims n x else.2

    -- who has taken in the seat c: who had before, or this seat just now
    Holder : ℕ → ℕ → Type 0
    Holder n c =
        ((o : ℕ) × (y : View) × (get_elem? views o ≡ some y) × IsClaimed c y.claims × Came n o)
        ⊎ ((n ≡ id) × (c ≡ other))

    holder : (n : ℕ) (x : View) (c : ℕ) → get_elem? (set (set views id both) other spent) n ≡ some x
        → IsClaimed c x.claims → Holder n c
    holder n x c e f = by (cases n x e)
      where
        of_both : n ≡ id → IsClaimed c (claims_of w) ⊎ IsClaimed c v.claims → Holder n c
        of_both is (inl (inl new)) = inr (is, sym new ∙ number)
        of_both is (inl (inr g)) = inl (other, w, there, g, inr (is, refl))
        of_both is (inr g) = inl (id, v, at, g, inl (is, λ same. unlike (sym same)))

        by : (spent ≡ x) ⊎ (((n ≡ id) × (both ≡ x))
            ⊎ ((n ≢ id) × (n ≢ other) × (get_elem? views n ≡ some x))) → Holder n c
        by (inl is) = absurd (subst (λ (z : View). IsClaimed c z.claims) (sym is) f)
        by (inr (inl is)) =
            of_both is.0
            (claimed-append c (claims_of w) v.claims
            (subst (IsClaimed c) (ap (λ (z : View). z.claims) (sym is.1) ∙ claims) f))
        by (inr (inr else)) = inl (n, x, else.2, f, inl (refl, else.1))

    taker : (m n c : ℕ) (x y : View) → Holder m c → Holder n c → m ≡ n
    taker m n c x y (inl a) (inl b) = one m a.0 n b.0 (k.takers a.0 b.0 c a.1 b.1 a.2 b.2 a.3 b.3) a.4 b.4
    taker m n c x y (inl a) (inr b) =
        absurd
        (not-claimed other a.1.claims (live a.0 a.1 a.2) (subst (λ (o : ℕ). IsClaimed o a.1.claims) b.1 a.3))
    taker m n c x y (inr a) (inl b) =
        absurd
        (not-claimed other b.1.claims (live b.0 b.1 b.2) (subst (λ (o : ℕ). IsClaimed o b.1.claims) a.1 b.3))
    taker m n c x y (inr a) (inr b) = a.0 ∙ sym b.0

-- a seat makes a call, which is no Enter if it has no share
pub rights-call : (h : List Step) (views : List View) (id : ℕ) (v : View) (s : Step) → AreSharesKept h views
    → get_elem? views id ≡ some v → s.seat ≡ id → (is_enter s.call ≡ true → 0 < length v.shares)
    → ((n : ℕ) (u : View) → get_elem? views n ≡ some u → AreOfOthers id u.claims)
    → AreSharesKept (h ++ s ∷ []) views
rights-call h views id v s k at is may live = record {
  apart = k.apart;
  entered = λ n e.
      ⊎_elim (λ (old : has_enter (seat_calls n h) ≡ true). k.entered n old)
      (λ (new : (s.seat ≡ n) × (is_enter s.call ≡ true)). (
        id,
        v,
        at,
        may new.1,
        inl (sym is ∙ new.0),
      ))
      (enter-more h s n e);
  claims = λ n u e.
      let old = k.claims n u e in (
        claims-more h s u.claims (subst (λ (o : ℕ). AreOfOthers o u.claims) (sym is) (live n u e)) old.0,
        old.1,
      );
  takers = k.takers;
}

-- ---- what a seat that has all shares knows

-- an element that passes the test is found in the calls of its seat
calls-found : (h : List Step) (i : ℕ) (s : Step) → get_elem? h i ≡ some s → is_enter s.call ≡ true
    → has_enter (seat_calls s.seat h) ≡ true
calls-found [] i s e enters = absurd (some-ne-none s (sym e))
calls-found (x ∷ h) zero s e enters =
    let same : x ≡ s = some-injective x s e in
    let own : (x.seat == s.seat) ≡ true = eq-eqb x.seat s.seat (ap (λ (z : Step). z.seat) same) in
    subst (λ b. has_enter (cond b (x ∷ seat_calls s.seat h) (seat_calls s.seat h)) ≡ true)
    (sym own) (or_left _ _ (ap (λ (z : Step). is_enter z.call) same ∙ enters))
calls-found (x ∷ h) (suc i) s e enters =
    let rest = calls-found h i s e enters in
    ⊎_elim
    (λ (own : (x.seat == s.seat) ≡ true).
    subst (λ b. has_enter (cond b (x ∷ seat_calls s.seat h) (seat_calls s.seat h)) ≡ true)
    (sym own) (or_right (is_enter x.call) _ rest))
    (λ (foreign : (x.seat == s.seat) ≡ false).
    subst (λ b. has_enter (cond b (x ∷ seat_calls s.seat h) (seat_calls s.seat h)) ≡ true)
    (sym foreign) rest)
    (cases_Bool (x.seat == s.seat))

-- a seat that has all shares and has made no call itself has taken in each one that made an Enter
pub rights-all : (h : List Step) (views : List View) (id : ℕ) (v : View) → AreSharesKept h views
    → get_elem? views id ≡ some v → seat_calls id h ≡ [] → AreAll v.shares → (n : ℕ)
    → has_enter (seat_calls n h) ≡ true → IsClaimed n v.claims
rights-all h views id v k at none all n e = found (k.entered n e)
  where
    first : (l : List (List Half)) → 0 < length l → (s : List Half) × IsShareOf s l
    first [] pos = absurd (omega (arith, pos))
    first (s ∷ l) pos = (s, inl refl)

    found : IsAnsweredFor views n → IsClaimed n v.claims
    found by =
        let s = first by.1.shares by.3 in
        let t = overlapped s.0 v.shares (all s.0) in
        let is : by.0 ≡ id = (k.apart by.0 id by.1 v s.0 t.0 by.2 at s.1 t.1 t.2).0 in
        let alike : by.1 ≡ v = some-injective by.1 v (sym by.2 ∙ ap (get_elem? views) is ∙ at) in
        ⊎_elim
        (λ (me : by.0 ≡ n).
        absurd
        (false≢true (sym (ap has_enter none) ∙ ap (λ m. has_enter (seat_calls m h)) (sym is ∙ me) ∙ e)))
        (λ (f : IsClaimed n by.1.claims). subst (λ (z : View). IsClaimed n z.claims) alike f)
        by.4

there : (h : List Step) (i : ℕ) (d : Step) → i < length h → get_elem? h i ≡ some (slice_index_or h i d)
there [] i d low = absurd (omega (arith, low))
there (x ∷ h) zero d low = refl
there (x ∷ h) (suc i) d low = there h i d (omega (arith, low))

-- so the Enters of the history are calls of these
pub enters-of : (h : List Step) (views : List View) (id : ℕ) (v : View) → AreSharesKept h views
    → get_elem? views id ≡ some v → seat_calls id h ≡ [] → AreAll v.shares → AreEntersOf v.claims h
enters-of h views id v k at none all i d low enters =
    let s = slice_index_or h i d in
    rights-all h views id v k at none all s.seat (calls-found h i s (there h i d low) enters)

-- ---- what is known of seats, and of those that they took in

-- the seats without those that they took in
pub claims-first : (h : List Step) (views : List View) → AreClaims h (flat_map claims_of views)
    → AreClaims h (map claim_of views)
claims-first h [] f = tt
claims-first h (v ∷ views) f =
    (f.0, claims-first h views (claims-behind h v.claims (flat_map claims_of views) f.1))
  where
    claims-behind : (g : List Step) (xs ys : List Claim) → AreClaims g (xs ++ ys) → AreClaims g ys
    claims-behind g [] ys e = e
    claims-behind g (x ∷ xs) ys e = claims-behind g xs ys e.1

others-first : (n : ℕ) (views : List View) → AreOfOthers n (flat_map claims_of views)
    → AreOfOthers n (map claim_of views)
others-first n [] f = tt
others-first n (v ∷ views) f =
    (f.0, others-first n views (others-behind v.claims (flat_map claims_of views) f.1))
  where
    others-behind : (xs ys : List Claim) → AreOfOthers n (xs ++ ys) → AreOfOthers n ys
    others-behind [] ys e = e
    others-behind (x ∷ xs) ys e = others-behind xs ys e.1

pub apart-first : (views : List View) → AreSeatsApart (flat_map claims_of views)
    → AreSeatsApart (map claim_of views)
apart-first [] f = tt
apart-first (v ∷ views) f = (
  others-first v.number views (others-behind v.number v.claims (flat_map claims_of views) f.0),
  apart-first views (apart-behind v.claims (flat_map claims_of views) f.1),
)
  where
    others-behind : (n : ℕ) (xs ys : List Claim) → AreOfOthers n (xs ++ ys) → AreOfOthers n ys
    others-behind n [] ys e = e
    others-behind n (x ∷ xs) ys e = others-behind n xs ys e.1

    apart-behind : (xs ys : List Claim) → AreSeatsApart (xs ++ ys) → AreSeatsApart ys
    apart-behind [] ys e = e
    apart-behind (x ∷ xs) ys e = apart-behind xs ys e.1
