-- How entries are compared without memory.
use Rattle.std.proofs.Common.{◌≡◌, ℕ, zero, suc, ◌+◌, ◌<◌, Bool, true, false, List, [], ◌∷◌, ◌++◌, length}
use Rattle.std.proofs.Common.{get_or, take, Option, None, Some, refl, sym, ◌∙◌, ap, arith, leb, ⊎_elim}
use Rattle.std.specs.Prelude.{◌&&◌, not, nat_eq, slice_get, unwrap_or}
use Rattle.std.specs.List.{starts_with, list_any, position_from}
use Rattle.std.specs.Option.{option_map_or, option_eq}
use Rattle.std.proofs.lemmas.Bool.{both_ways, or_cases, or_parts, cond-true, cond-false, and_parts, and_from}
use Rattle.std.proofs.lemmas.Bool.{false≢true, false_from_ne_true, eqb-true, eq-eqb}
use Rattle.std.proofs.lemmas.List.{append-nil}
use Rattle.std.proofs.lemmas.Option.{unwrap_or-slice_get}
use Rattle.ompt_events.specs.declared.records.Part.{Part}
use Rattle.ompt_events.specs.declared.records.Part.TheVariants.{Whole, Body, Event}
use Rattle.credit_ledger.specs.Shares.{begins_with, overlaps, start_share, finish_share}
use Rattle.credit_ledger.proofs.RunLemmas.{begins_with-runs, finish_share-keep, finish_share-give}
use Rattle.credit_ledger.specs.declared.entry.Entry.{Entry}
use Rattle.credit_ledger.specs.Entries.{part_halves, parent_and_number, pool_share, is_same_path}
use Rattle.credit_ledger.specs.Entries.{overlaps_in_pool}
use Rattle.credit_ledger.specs.Codes.{tree_runs, tree_last}
use Rattle.credit_ledger.proofs.CodeLemmas.{start-begun, same_path-true, same_path-itself}
use Rattle.credit_ledger.proofs.LedgerLemmas.{overlaps-shift}

pub parent_and_number-push : (path : List ℕ) (n : ℕ) → parent_and_number (path ++ n ∷ []) ≡ Some (path, n)
parent_and_number-push [] n = refl
parent_and_number-push (m ∷ path) n =
    ap (λ o. Some (option_map_or (λ s. (m ∷ s.0, s.1)) o ([], m))) (parent_and_number-push path n)

-- the share as runs
pub tree_share-runs : (path : List ℕ) (kept : ℕ) (part : Part)
    → finish_share path kept ++ part_halves part
    ≡ finish_share (tree_runs path kept part) (tree_last kept part)
tree_share-runs path kept Whole = append-nil (finish_share path kept)
tree_share-runs path kept Body = sym (finish_share-keep path kept)
tree_share-runs path kept Event = sym (finish_share-give path kept)

-- a list that begins with another one has the same elements
pub starts_with-all : (a b : List ℕ) → ((i : ℕ) → i < length b → slice_get a i ≡ slice_get b i)
    → starts_with nat_eq a b ≡ true
starts_with-all a [] same = refl
starts_with-all [] (n ∷ b) same = let e = same 0 (omega arith) in cc
starts_with-all (m ∷ a) (n ∷ b) same =
    let first = same 0 (omega arith) in
    let e : n ≡ m = cc in
    and_from _ _ (eq-eqb n m e) (starts_with-all a b (λ i less. same (suc i) (omega arith)))

pub starts_with-at : (a b : List ℕ) → starts_with nat_eq a b ≡ true → (i : ℕ) → i < length b
    → slice_get a i ≡ slice_get b i
starts_with-at a [] e i less = absurd (omega arith)
starts_with-at [] (n ∷ b) e i less = absurd (false≢true e)
starts_with-at (m ∷ a) (n ∷ b) e zero less =
    let parts = and_parts (nat_eq n m) (starts_with nat_eq a b) e in
    let k : n ≡ m = eqb-true n m parts.0 in cc
starts_with-at (m ∷ a) (n ∷ b) e (suc i) less =
    starts_with-at a b (and_parts (nat_eq n m) (starts_with nat_eq a b) e).1 i (omega arith)

-- ---- shares of the root's credit

pub begins_with-unlike : (p q : List ℕ) (k m : ℕ) (a b : Part) (i : ℕ) → i < length (tree_runs q m b)
    → (slice_get (tree_runs p k a) i ≡ slice_get (tree_runs q m b) i → ⊥)
    → begins_with (finish_share p k ++ part_halves a) (finish_share q m ++ part_halves b) ≡ false
begins_with-unlike p q k m a b i less apart =
    false_from_ne_true (begins_with (finish_share p k ++ part_halves a) (finish_share q m ++ part_halves b))
    (
    λ begun.
    apart (starts_with-at (tree_runs p k a) (tree_runs q m b) (and_parts
    (starts_with nat_eq (tree_runs p k a) (tree_runs q m b)) _
    (sym (begins_with-runs (tree_runs p k a) (tree_last k a) (tree_runs q m b) (tree_last m b))
    ∙ ap (λ x. begins_with x (finish_share (tree_runs q m b) (tree_last m b))) (sym (tree_share-runs p k a))
    ∙ ap (begins_with (finish_share p k ++ part_halves a)) (sym (tree_share-runs q m b))
    ∙ begun)).0 i less))

pub begins_with-alike : (p q : List ℕ) (k m : ℕ) (a b : Part)
    → ((i : ℕ) → i < length (tree_runs q m b) → slice_get (tree_runs p k a) i ≡ slice_get (tree_runs q m b) i)
    → begins_with (finish_share p k ++ part_halves a) (finish_share q m ++ part_halves b)
    ≡ leb (tree_last m b)
    (unwrap_or (slice_get (tree_runs p k a) (length (tree_runs q m b))) (tree_last k a))
begins_with-alike p q k m a b same =
    ap (λ x. begins_with x (finish_share q m ++ part_halves b)) (tree_share-runs p k a)
    ∙ ap (begins_with (finish_share (tree_runs p k a) (tree_last k a))) (tree_share-runs q m b)
    ∙ begins_with-runs (tree_runs p k a) (tree_last k a) (tree_runs q m b) (tree_last m b)
    ∙ ap (λ t. t && leb (tree_last m b) (get_or (tree_runs p k a) (length (tree_runs q m b)) (tree_last k a)))
    (starts_with-all (tree_runs p k a) (tree_runs q m b) same)
    ∙ ap (leb (tree_last m b))
    (sym (unwrap_or-slice_get (tree_runs p k a) (length (tree_runs q m b)) (tree_last k a)))

-- ---- shares of a pool

abbrev pub last_of : ℕ → List ℕ → List ℕ × ℕ
last_of n rest = option_map_or (λ s. (n ∷ s.0, s.1)) (parent_and_number rest) ([], n)

child_path : (n : ℕ) (rest : List ℕ) → n ∷ rest ≡ (last_of n rest).0 ++ (last_of n rest).1 ∷ []
child_path n [] = refl
child_path n (m ∷ rest) = ap (λ p. n ∷ p) (child_path m rest)

pub overlaps_in_pool-root : (p : List ℕ) (q : Option (List ℕ × ℕ)) (a b : Part) → length p ≡ 0
    → overlaps_in_pool (parent_and_number p) a q b ≡ false
overlaps_in_pool-root [] q a b e = refl
overlaps_in_pool-root (n ∷ p) q a b e = absurd (omega arith)

in_pool_parts : (c d : List ℕ × ℕ) (a b : Part) → overlaps_in_pool (Some c) a (Some d) b ≡ true
    → (c.0 ≡ d.0) × (c.1 ≡ d.1)
in_pool_parts c d a b e =
    let both = and_parts (is_same_path c.0 d.0) (overlaps (pool_share c.1 a) (pool_share d.1 b)) e in (
      same_path-true c.0 d.0 both.0,
      ⊎_elim (λ first. (start-begun c.1 d.1 [] [] (part_halves a) (part_halves b) first).0)
          (λ second. sym (start-begun d.1 c.1 [] [] (part_halves b) (part_halves a) second).0)
          (or_cases (begins_with (pool_share c.1 a) (pool_share d.1 b))
          (begins_with (pool_share d.1 b) (pool_share c.1 a)) both.1),
    )

pub overlaps_in_pool-other : (p q : List ℕ) (a b : Part) → is_same_path p q ≡ false
    → overlaps_in_pool (parent_and_number p) a (parent_and_number q) b ≡ false
overlaps_in_pool-other [] q a b off = refl
overlaps_in_pool-other (m ∷ p) [] a b off = refl
overlaps_in_pool-other (m ∷ p) (n ∷ q) a b off =
    false_from_ne_true (overlaps_in_pool (parent_and_number (m ∷ p)) a (parent_and_number (n ∷ q)) b)
    (λ on.
    let parts = in_pool_parts (last_of m p) (last_of n q) a b on in
    let same : m ∷ p ≡ n ∷ q =
    child_path m p ∙ ap (λ r. r ++ (last_of m p).1 ∷ []) parts.0
    ∙ ap (λ k. (last_of n q).0 ++ k ∷ []) parts.1 ∙ sym (child_path n q) in
    both_ways (is_same_path (m ∷ p) (n ∷ q)) off
    (ap (is_same_path (m ∷ p)) (sym same) ∙ same_path-itself (m ∷ p)))

pub overlaps_in_pool-same : (p q : List ℕ) (a b : Part) → (length p ≡ 0 → ⊥) → is_same_path p q ≡ true
    → overlaps_in_pool (parent_and_number p) a (parent_and_number q) b
    ≡ overlaps (part_halves a) (part_halves b)
overlaps_in_pool-same [] q a b some same = absurd (some refl)
overlaps_in_pool-same (n ∷ p) q a b some same =
    let whole : n ∷ p ≡ q = same_path-true (n ∷ p) q same in
    ap (λ r. overlaps_in_pool (parent_and_number (n ∷ p)) a (parent_and_number r) b) (sym whole)
    ∙ ap (λ t. t && overlaps (pool_share (last_of n p).1 a) (pool_share (last_of n p).1 b))
    (same_path-itself (last_of n p).0)
    ∙ overlaps-shift (start_share ((last_of n p).1 ∷ [])) (part_halves a) (part_halves b)

pub option_eq-itself : (o p : Option ℕ) → o ≡ p → not (option_eq nat_eq o p) ≡ true → ⊥
option_eq-itself None None e h = false≢true h
option_eq-itself None (Some y) e h = cc
option_eq-itself (Some x) None e h = cc
option_eq-itself (Some x) (Some y) e h =
    let same : x ≡ y = cc in both_ways (not (nat_eq x y)) (ap not (eq-eqb x y same)) h

-- ---- the first entry that overlaps

pub position_from-none : (test : Entry → Bool) (xs : List Entry) (i : ℕ) → list_any test xs ≡ false
    → position_from test i xs ≡ None
position_from-none test [] i h = refl
position_from-none test (x ∷ xs) i h =
    let parts = or_parts (test x) (list_any test xs) h in
    cond-false (test x) (Some i) (position_from test (i + 1) xs) parts.0
    ∙ position_from-none test xs (i + 1) parts.1

pub position_from-first : (test : Entry → Bool) (xs : List Entry) (i k : ℕ) (x : Entry)
    → list_any test (take k xs) ≡ false → slice_get xs k ≡ Some x → test x ≡ true
    → position_from test i xs ≡ Some (i + k)
position_from-first test [] i k x none at on = cc
position_from-first test (y ∷ xs) i zero x none at on =
    let same : y ≡ x = cc in
    let e : i ≡ i + 0 = omega arith in
    cond-true (test y) (Some i) (position_from test (i + 1) xs) (ap test same ∙ on) ∙ ap (λ n. Some n) e
position_from-first test (y ∷ xs) i (suc k) x none at on =
    let parts = or_parts (test y) (list_any test (take k xs)) none in
    let e : (i + 1) + k ≡ i + suc k = omega arith in
    cond-false (test y) (Some i) (position_from test (i + 1) xs) parts.0
    ∙ position_from-first test xs (i + 1) k x parts.1 at on ∙ ap (λ n. Some n) e
