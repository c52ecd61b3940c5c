-- The laws of the machine of credits, from what each event keeps.
use Rattle.std.proofs.Common.{◌≡◌, ℕ, ◌+◌, Bool, true, false, cond, List, [], ◌∷◌, ◌++◌, refl, ap, arith}
use Rattle.std.proofs.Common.{IsTrue, ⊎_elim}
use Rattle.std.specs.Prelude.{◌&&◌, ◌==◌, not, count_by, map, filter}
use Rattle.std.specs.List.{AllByRecursion as ByRecursion}
use Rattle.std.proofs.lemmas.Bool.{and_from, false≢true, cases_Bool, cond_both}
use Rattle.std.proofs.lemmas.List.Elements.{recursion_from_All}
use Rattle.std.proofs.lemmas.List.Sums.{sum_by-cons, sum_by-append}
use Rattle.credit_ledger.specs.declared.share.Half.{Half}
use Rattle.credit_ledger.specs.Shares.{begins_with, Tile}
use Rattle.credit_ledger.specs.Credits.{Credit, Event, is_entered, is_root, credits_after, live_shares}
use Rattle.credit_ledger.specs.Credits.{entered_shares}
use Rattle.credit_ledger.proofs.HalvedLemmas.{IsAsLong, ByRecursion-append, ones}
use Rattle.credit_ledger.proofs.CreditLemmas.{tally, Fits, AreCreditsSound-credits_after}

-- the shares of the credits that pass the test
abbrev pub shares_where : (Credit → Bool) → List Credit → List (List Half)
shares_where test cs = map (λ (c : Credit). c.share) (filter test cs)

abbrev pub is_live_of : ℕ → Credit → Bool
is_live_of root c = (c.root == root) && not (is_entered c.holder)

abbrev pub is_entered_of : ℕ → Credit → Bool
is_entered_of root c = (c.root == root) && is_entered c.holder

-- a count over such shares, credit by credit
abbrev pub tally_where : (List Half → Bool) → (Credit → Bool) → List Credit → ℕ
tally_where p test [] = 0
tally_where p test (c ∷ cs) = ones (test c && p c.share) + tally_where p test cs

count_by-shares_where : (p : List Half → Bool) (test : Credit → Bool) (cs : List Credit)
    → count_by p (shares_where test cs) ≡ tally_where p test cs
count_by-shares_where p test [] = refl
count_by-shares_where p test (c ∷ cs) =
    let rest = count_by-shares_where p test cs in
    cond_both (test c) (c ∷ filter test cs) (filter test cs)
    (λ (ds : List Credit).
    count_by p (map (λ (c : Credit). c.share) ds) ≡ ones (test c && p c.share) + tally_where p test cs)
    (λ yes.
    let first : ones (test c && p c.share) ≡ ones (p c.share) = ap (λ b. ones (b && p c.share)) yes in
    omega (arith, first, rest, sum_by-cons (λ s. ones (p s)) c.share (shares_where test cs)))
    (λ no.
    let first : ones (test c && p c.share) ≡ 0 = ap (λ b. ones (b && p c.share)) no in
    omega (arith, first, rest))

ones-either : (b e q : Bool) → ones ((b && not e) && q) + ones ((b && e) && q) ≡ ones (b && q)
ones-either false e q = refl
ones-either true true q = omega arith
ones-either true false q = omega arith

tally-either : (l : List Half) (root : ℕ) (cs : List Credit)
    → tally_where (λ s. begins_with l s) (is_live_of root) cs
    + tally_where (λ s. begins_with l s) (is_entered_of root) cs
    ≡ tally l root cs
tally-either l root [] = refl
tally-either l root (c ∷ cs) =
    omega (
      arith,
      tally-either l root cs,
      ones-either (c.root == root) (is_entered c.holder) (begins_with l c.share),
    )

-- a list of halves begins with as many live and entered shares of the root as with shares of the root
pub count_by-live-entered : (l : List Half) (root : ℕ) (cs : List Credit)
    → count_by (λ s. begins_with l s) (live_shares root cs)
    + count_by (λ s. begins_with l s) (entered_shares root cs)
    ≡ tally l root cs
count_by-live-entered l root cs =
    omega (
      arith,
      tally-either l root cs,
      count_by-shares_where (λ s. begins_with l s) (is_live_of root) cs,
      count_by-shares_where (λ s. begins_with l s) (is_entered_of root) cs,
    )

first_where : (P : List Half → Type 0) (b : Bool) (c : Credit) (cs : List Credit)
    → ByRecursion P (map (λ (c : Credit). c.share) (cond b (c ∷ cs) cs))
    → (b ≡ true → P c.share) × ByRecursion P (map (λ (c : Credit). c.share) cs)
first_where P true c cs h = ((λ yes. h.0), h.1)
first_where P false c cs h = ((λ yes. absurd (false≢true yes)), h)

pub Fits-from_shares : (l : List Half) (root : ℕ) (cs : List Credit)
    → ByRecursion (IsAsLong l) (live_shares root cs) → ByRecursion (IsAsLong l) (entered_shares root cs)
    → Fits l root cs
Fits-from_shares l root [] live entered = tt
Fits-from_shares l root (c ∷ cs) live entered =
    let as_live = first_where (IsAsLong l) (is_live_of root c) c (filter (is_live_of root) cs) live in
    let as_entered =
    first_where (IsAsLong l) (is_entered_of root c) c (filter (is_entered_of root) cs) entered in (
      (λ here. ⊎_elim
          (λ (yes : is_entered c.holder ≡ true). as_entered.0 (and_from _ _ here yes))
          (λ (no : is_entered c.holder ≡ false). as_live.0 (and_from _ _ here (ap not no)))
          (cases_Bool (is_entered c.holder))),
      Fits-from_shares l root cs as_live.1 as_entered.1,
    )

-- the law, from what is kept
pub Tile-credits_after : (es : List Event) (root : ℕ) → IsTrue (is_root root (credits_after es))
    → Tile (live_shares root (credits_after es) ++ entered_shares root (credits_after es))
Tile-credits_after es root begun l long =
    let live = live_shares root (credits_after es) in
    let entered = entered_shares root (credits_after es) in
    let parts = ByRecursion-append (IsAsLong l) live entered (recursion_from_All (IsAsLong l) _ long) in
    let one =
    (AreCreditsSound-credits_after es).one l root begun
    (Fits-from_shares l root (credits_after es) parts.0 parts.1) in
    omega (
      arith,
      one,
      count_by-live-entered l root (credits_after es),
      sum_by-append (λ s. ones (begins_with l s)) live entered,
    )
