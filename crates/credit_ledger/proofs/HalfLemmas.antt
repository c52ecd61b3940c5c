-- How the shares of two tasks may begin alike, and where a list of halves goes at a task.
use Rattle.std.proofs.Common.{◌≡◌, ◌∙◌, ℕ, zero, suc, ◌<◌, ◌≤◌, true, List, [], ◌∷◌, ◌++◌, length, replicate}
use Rattle.std.proofs.Common.{refl, sym, ap, subst, arith, inl, inr}
use Rattle.std.specs.List.{list_any, AllByRecursion as ByRecursion}
use Rattle.std.proofs.lemmas.Bool.{false≢true, cases_Bool}
use Rattle.std.proofs.lemmas.List.Folds.{Any-from_list_any}
use Rattle.std.proofs.lemmas.List.Elements.{recursion_from_All}
use Rattle.credit_ledger.specs.declared.share.Half.{Half}
use Rattle.credit_ledger.specs.declared.share.Half.TheVariants.{Keep, Give}
use Rattle.credit_ledger.specs.Shares.{begins_with, start_share, Hold}
use Rattle.credit_ledger.proofs.HalvedLemmas.{IsAsLong}
use Rattle.credit_ledger.proofs.RegionLemmas.{IsShareIn, list_any-in}
use Rattle.credit_ledger.proofs.CodeLemmas.{start-begun, start-cons}

-- ---- two shares of which one begins with the other

-- a share of the task at path p, which created m children, begins with a share of the task at path q, which
-- created k
pub data Meets (m k : ℕ) (rest halves : List Half) (p q : List ℕ) : Type 0 where
  same : p ≡ q → begins_with (replicate m Keep ++ rest) (replicate k Keep ++ halves) ≡ true
      → Meets m k rest halves p q
  under : (number : ℕ) (more : List ℕ) → q ≡ p ++ number ∷ more → m ≤ number → Meets m k rest halves p q
  over : (number : ℕ) (more : List ℕ) → p ≡ q ++ number ∷ more → k ≤ number → Meets m k rest halves p q

-- no more halves are kept than there are before one is given
keeps-first : (m n : ℕ) (y z : List Half)
    → begins_with (replicate n Keep ++ Give ∷ y) (replicate m Keep ++ z) ≡ true → m ≤ n
keeps-first zero n y z e = omega arith
keeps-first (suc m) zero y z e = absurd (false≢true e)
keeps-first (suc m) (suc n) y z e = let less = keeps-first m n y z e in omega arith

gives-last : (m n : ℕ) (y z : List Half)
    → begins_with (replicate m Keep ++ z) (replicate n Keep ++ Give ∷ y) ≡ true → m ≤ n
gives-last zero n y z e = omega arith
gives-last (suc m) zero y z e = absurd (false≢true e)
gives-last (suc m) (suc n) y z e = let less = gives-last m n y z e in omega arith

meets-below : (m k n : ℕ) (rest halves : List Half) (p q : List ℕ) → Meets m k rest halves p q
    → Meets m k rest halves (n ∷ p) (n ∷ q)
meets-below m k n rest halves p q (same is begun) = same (ap (λ l. n ∷ l) is) begun
meets-below m k n rest halves p q (under number more is few) = under number more (ap (λ l. n ∷ l) is) few
meets-below m k n rest halves p q (over number more is few) = over number more (ap (λ l. n ∷ l) is) few

pub meet : (m k : ℕ) (rest halves : List Half) (p q : List ℕ)
    → begins_with (start_share p ++ (replicate m Keep ++ rest))
    (start_share q ++ (replicate k Keep ++ halves))
    ≡ true
    → Meets m k rest halves p q
meet m k rest halves [] [] e = same refl e
meet m k rest halves [] (n ∷ q) e =
    under n q refl
    (gives-last m n (start_share q ++ (replicate k Keep ++ halves)) rest
    (subst (λ s. begins_with (replicate m Keep ++ rest) s ≡ true)
    (start-cons n q (replicate k Keep ++ halves)) e))
meet m k rest halves (n ∷ p) [] e =
    over n p refl
    (keeps-first k n (start_share p ++ (replicate m Keep ++ rest)) halves
    (subst (λ s. begins_with s (replicate k Keep ++ halves) ≡ true)
    (start-cons n p (replicate m Keep ++ rest)) e))
meet m k rest halves (n ∷ p) (o ∷ q) e =
    let parts = start-begun n o p q (replicate m Keep ++ rest) (replicate k Keep ++ halves) e in
    let P : ℕ → Type 0 = λ x. Meets m k rest halves (n ∷ p) (x ∷ q) in
    subst P parts.0 (meets-below m k n rest halves p q (meet m k rest halves p q parts.1))

-- ---- a list of halves at a task that created m children

pub data Goes (m : ℕ) (r : List Half) : Type 0 where
  -- it keeps as often as the task did
  through : (rest : List Half) → r ≡ replicate m Keep ++ rest → Goes m r
  -- it goes on with what a child was given
  aside : (number : ℕ) (rest : List Half) → number < m → r ≡ replicate number Keep ++ Give ∷ rest → Goes m r
  -- it ends before
  short : length r < m → Goes m r

pub goes : (m : ℕ) (r : List Half) → Goes m r
goes zero r = through r refl
goes (suc m) [] = short (omega arith)
goes (suc m) (Give ∷ r) = aside zero r (omega arith) refl
goes (suc m) (Keep ∷ r) = more (goes m r)
  where
    more : Goes m r → Goes (suc m) (Keep ∷ r)
    more (through rest is) = through rest (ap (λ s. Keep ∷ s) is)
    more (aside number rest less is) = aside (suc number) rest (omega (arith, less)) (ap (λ s. Keep ∷ s) is)
    more (short less) = short (omega (arith, less))

-- ---- what is held

all_short : (l : List Half) (xs : List (List Half)) → ByRecursion (IsAsLong l) xs → (x : List Half)
    → IsShareIn x xs
    → length x ≤ length l
all_short l [] h x there = absurd there
all_short l (y ∷ xs) h x there = elim there [
  | inl is ↦ let first = h.0 in let len = ap length is in omega (arith, first, len)
  | inr rest ↦ all_short l xs h.1 x rest
]

-- shares hold one where no long list of halves that begins with it begins with none of them
pub hold_from : (shares : List (List Half)) (s : List Half)
    → ((l : List Half) → begins_with l s ≡ true → ((x : List Half) → IsShareIn x shares → length x ≤ length l)
    → ((x : List Half) → IsShareIn x shares → begins_with l x ≡ true → ⊥) → ⊥)
    → Hold shares s
hold_from shares s never l begins long = elim (cases_Bool (list_any (λ t. begins_with l t) shares)) [
  | inl some ↦ Any-from_list_any (λ t. begins_with l t) shares some
  | inr none ↦
      absurd (never l begins (all_short l shares (recursion_from_All (IsAsLong l) (s ∷ shares) long).1)
      (λ x there begun. false≢true (sym none ∙ list_any-in (λ t. begins_with l t) x shares there begun)))
]
