-- What the runs of a share tell of its halves.
use Rattle.std.proofs.Common.{◌≡◌, ℕ, zero, suc, ◌+◌, ◌<◌, ◌≤◌, Bool, true, false, List, [], ◌∷◌, ◌++◌}
use Rattle.std.proofs.Common.{length, get_or, take, drop, replicate, refl, sym, ◌∙◌, ap, arith, append_assoc}
use Rattle.std.proofs.Common.{length-append, eqb, leb, cond}
use Rattle.std.specs.Prelude.{◌&&◌, count_by, sum_by, nat_eq}
use Rattle.std.specs.List.{starts_with}
use Rattle.std.proofs.lemmas.List.{append-nil, length-replicate, replicate_more, take_more, take-append-drop}
use Rattle.std.proofs.lemmas.List.Sums.{sum_by-append, sum_by-cons}
use Rattle.std.proofs.Math.Dec.{leb-zero, leb-suc-zero, leb-suc-suc, eqb-suc-zero, eqb-zero-suc, eqb-suc-suc}
use Rattle.credit_ledger.specs.declared.share.Half.{Half}
use Rattle.credit_ledger.specs.declared.share.Half.TheVariants.{Keep, Give}
use Rattle.credit_ledger.specs.Shares.{begins_with, is_give, keep_half, give_half, start_share, finish_share}

-- a run of Keep halves, and what stands behind it
pub begins_with-run : (n m : ℕ) (x : List Half)
    → begins_with (replicate n Keep ++ Give ∷ x) (replicate m Keep) ≡ leb m n
begins_with-run n zero x = sym (leb-zero n)
begins_with-run zero (suc m) x = sym (leb-suc-zero m)
begins_with-run (suc n) (suc m) x = begins_with-run n m x ∙ sym (leb-suc-suc m n)

pub begins_with-last : (n m : ℕ) → begins_with (replicate n Keep) (replicate m Keep) ≡ leb m n
begins_with-last n zero = sym (leb-zero n)
begins_with-last zero (suc m) = sym (leb-suc-zero m)
begins_with-last (suc n) (suc m) = begins_with-last n m ∙ sym (leb-suc-suc m n)

pub begins_with-give : (n m : ℕ) (y : List Half)
    → begins_with (replicate n Keep) (replicate m Keep ++ Give ∷ y) ≡ false
begins_with-give zero zero y = refl
begins_with-give (suc n) zero y = refl
begins_with-give zero (suc m) y = refl
begins_with-give (suc n) (suc m) y = begins_with-give n m y

pub begins_with-both : (n m : ℕ) (x y : List Half)
    → begins_with (replicate n Keep ++ Give ∷ x) (replicate m Keep ++ Give ∷ y) ≡ (eqb m n && begins_with x y)
begins_with-both zero zero x y = refl
begins_with-both (suc n) zero x y = sym (ap (λ b. b && begins_with x y) (eqb-zero-suc n))
begins_with-both zero (suc m) x y = sym (ap (λ b. b && begins_with x y) (eqb-suc-zero m))
begins_with-both (suc n) (suc m) x y =
    begins_with-both n m x y ∙ sym (ap (λ b. b && begins_with x y) (eqb-suc-suc m n))

-- the first run of a share, and the rest
pub finish_share-cons : (n : ℕ) (runs : List ℕ) (last : ℕ)
    → finish_share (n ∷ runs) last ≡ replicate n Keep ++ Give ∷ finish_share runs last
finish_share-cons n runs last = simp append_assoc

and-assoc : (a b c : Bool) → (a && (b && c)) ≡ (a && b && c)
and-assoc true b c = refl
and-assoc false b c = refl

pub begins_with-runs : (runs : List ℕ) (last : ℕ) (others : List ℕ) (other : ℕ)
    → begins_with (finish_share runs last) (finish_share others other)
    ≡ (starts_with nat_eq runs others && leb other (get_or runs (length others) last))
begins_with-runs [] last [] other = begins_with-last last other
begins_with-runs (n ∷ runs) last [] other =
    ap (λ s. begins_with s (replicate other Keep)) (finish_share-cons n runs last)
    ∙ begins_with-run n other (finish_share runs last)
begins_with-runs [] last (m ∷ others) other =
    ap (begins_with (replicate last Keep)) (finish_share-cons m others other)
    ∙ begins_with-give last m (finish_share others other)
begins_with-runs (n ∷ runs) last (m ∷ others) other =
    let rest = begins_with-runs runs last others other in
    let both = begins_with-both n m (finish_share runs last) (finish_share others other) in
    let one = finish_share-cons n runs last in
    let two = finish_share-cons m others other in
    rw (one, two, both, rest)
    (and-assoc (eqb m n) (starts_with nat_eq runs others) (leb other (get_or runs (length others) last)))

-- one more half
pub finish_share-keep : (runs : List ℕ) (last : ℕ)
    → finish_share runs (last + 1) ≡ keep_half (finish_share runs last)
finish_share-keep runs last =
    ap (λ x. start_share runs ++ x) (sym (replicate_more last Keep)) ∙ simp append_assoc

pub start_share-append : (runs others : List ℕ)
    → start_share (runs ++ others) ≡ start_share runs ++ start_share others
start_share-append [] others = refl
start_share-append (n ∷ runs) others =
    ap (λ x. (replicate n Keep ++ Give ∷ []) ++ x) (start_share-append runs others) ∙ simp append_assoc

pub finish_share-give : (runs : List ℕ) (last : ℕ)
    → finish_share (runs ++ last ∷ []) 0 ≡ give_half (finish_share runs last)
finish_share-give runs last = simp (start_share-append, append_assoc, append-nil)

gives_in_run : (n : ℕ) → count_by is_give (replicate n Keep) ≡ 0
gives_in_run zero = refl
gives_in_run (suc n) =
    omega (arith, gives_in_run n, sum_by-cons (λ h. cond (is_give h) 1 0) Keep (replicate n Keep))

-- each run but the last one ends with a Give half
pub gives_in_share : (runs : List ℕ) (last : ℕ) → count_by is_give (finish_share runs last) ≡ length runs
gives_in_share [] last = gives_in_run last
gives_in_share (n ∷ runs) last =
    let one : ℕ = sum_by (λ h. cond (is_give h) 1 0) (replicate n Keep) in
    let none : sum_by (λ h. cond (is_give h) 1 0) (replicate n Keep) ≡ 0 = gives_in_run n in
    let rest : sum_by (λ h. cond (is_give h) 1 0) (finish_share runs last) ≡ length runs =
    gives_in_share runs last in
    rw finish_share-cons (omega (
      arith,
      none,
      rest,
      sum_by-append (λ h. cond (is_give h) 1 0) (replicate n Keep) (Give ∷ finish_share runs last),
      sum_by-cons (λ h. cond (is_give h) 1 0) Give (finish_share runs last),
    ))

-- how many halves one more run has
pub length-start_share-more : (path : List ℕ) (i : ℕ) → i < length path
    → length (start_share (take (i + 1) path)) ≡ length (start_share (take i path)) + get_or path i 0 + 1
length-start_share-more path i within =
    let one = take_more path i 0 within in
    let run = get_or path i 0 in
    rw one
    (rw start_share-append
    (omega (
      arith,
      length-append (start_share (take i path)) ((replicate run Keep ++ Give ∷ []) ++ []),
      length-append (replicate run Keep ++ Give ∷ []) [],
      length-append (replicate run Keep) (Give ∷ []),
      length-replicate run Keep,
    )))

-- a run is no longer than its share
pub run-le : (runs : List ℕ) (i : ℕ) → get_or runs i 0 ≤ length (start_share runs)
run-le [] i = omega arith
run-le (n ∷ runs) zero =
    omega (
      arith,
      length-append (replicate n Keep ++ Give ∷ []) (start_share runs),
      length-append (replicate n Keep) (Give ∷ []),
      length-replicate n Keep,
    )
run-le (n ∷ runs) (suc i) =
    omega (arith, run-le runs i, length-append (replicate n Keep ++ Give ∷ []) (start_share runs))

-- the first runs are no longer than all
pub length-start_share-take : (runs : List ℕ) (i : ℕ)
    → length (start_share (take i runs)) ≤ length (start_share runs)
length-start_share-take runs i =
    let split : start_share runs ≡ start_share (take i runs) ++ start_share (drop i runs) =
    ap start_share (sym (take-append-drop i runs)) ∙ start_share-append (take i runs) (drop i runs) in
    omega (arith, ap length split, length-append (start_share (take i runs)) (start_share (drop i runs)))
