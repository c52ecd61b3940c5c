-- Where the shares of roots and pools stand, and that they hold one another there as they do outside.
use Rattle.std.proofs.Common.{◌≡◌, ℕ, ◌+◌, ◌*◌, ◌/◌, ◌%◌, ◌^◌, ◌<◌, Bool, true, false, cond, List, [], ◌∷◌}
use Rattle.std.proofs.Common.{◌++◌, replicate, map, Option, None, Some, refl, sym, ◌∙◌, ap, subst, arith}
use Rattle.std.proofs.Common.{append_assoc, ⊎_elim, inl, ◌⊎◌, eqb}
use Rattle.std.specs.Prelude.{◌==◌, ◌&&◌, nat_eq}
use Rattle.std.specs.List.{flat_map}
use Rattle.std.proofs.lemmas.Bool.{and_parts, and_from, false≢true, cases_Bool, or_cases, eqb-true, eq-eqb}
use Rattle.ompt_events.specs.declared.records.Part.{Part}
use Rattle.credit_ledger.specs.declared.share.Half.{Half}
use Rattle.credit_ledger.specs.declared.share.Half.TheVariants.{Keep, Give}
use Rattle.credit_ledger.specs.Shares.{begins_with, overlaps, start_share}
use Rattle.credit_ledger.proofs.RunLemmas.{begins_with-both, start_share-append}
use Rattle.credit_ledger.specs.declared.entry.Entry.{Entry}
use Rattle.credit_ledger.specs.Entries.{part_halves, tree_share, parent_and_number, is_same_path, tree_shares}
use Rattle.credit_ledger.specs.Codes.{region_code, tree_code, pool_runs, second_code, codes, all_codes}
use Rattle.credit_ledger.proofs.RegionLemmas.{IsShareIn, IsShareIn-append_left, IsShareIn-append_right}
use Rattle.credit_ledger.proofs.RegionLemmas.{IsShareIn-append_cases}
use Rattle.credit_ledger.proofs.RegionLemmas.{IsShifted, shifted, AreShifted}

-- ---- regions

-- two shares that begin with a run and then a Give half
pub run-begun : (a b : ℕ) (y z : List Half)
    → begins_with (replicate a Keep ++ Give ∷ y) (replicate b Keep ++ Give ∷ z) ≡ true
    → (a ≡ b) × (begins_with y z ≡ true)
run-begun a b y z e =
    let parts = and_parts (eqb b a) (begins_with y z) (sym (begins_with-both a b y z) ∙ e) in
    (sym (eqb-true b a parts.0), parts.1)

pub start-cons : (n : ℕ) (runs : List ℕ) (y : List Half)
    → start_share (n ∷ runs) ++ y ≡ replicate n Keep ++ Give ∷ (start_share runs ++ y)
start-cons n runs y = simp append_assoc

pub start-begun : (a b : ℕ) (runs others : List ℕ) (y z : List Half)
    → begins_with (start_share (a ∷ runs) ++ y) (start_share (b ∷ others) ++ z) ≡ true
    → (a ≡ b) × (begins_with (start_share runs ++ y) (start_share others ++ z) ≡ true)
start-begun a b runs others y z e =
    run-begun a b (start_share runs ++ y) (start_share others ++ z)
    (subst (λ u. begins_with u (replicate b Keep ++ Give ∷ (start_share others ++ z)) ≡ true)
    (start-cons a runs y)
    (subst (λ v. begins_with (start_share (a ∷ runs) ++ y) v ≡ true) (start-cons b others z) e))

region-begun : (k l r q : ℕ) (y z : List Half) → k < 3 → l < 3
    → begins_with (start_share (region_code k r) ++ y) (start_share (region_code l q) ++ z) ≡ true
    → (k ≡ l) × (r ≡ q) × (begins_with y z ≡ true)
region-begun k l r q y z small little e =
    let one =
    start-begun (3 * (r / 2 ^ 32) + k) (3 * (q / 2 ^ 32) + l) (r % 2 ^ 32 ∷ []) (q % 2 ^ 32 ∷ []) y z e in
    let two = start-begun (r % 2 ^ 32) (q % 2 ^ 32) [] [] y z one.1 in
    let upper : r / 2 ^ 32 ≡ q / 2 ^ 32 = omega (arith, one.0) in
    (omega (arith, one.0, upper), omega (arith, upper, two.0), two.1)

pub region-overlap : (k l r q : ℕ) (y z : List Half) → k < 3 → l < 3
    → overlaps (start_share (region_code k r) ++ y) (start_share (region_code l q) ++ z) ≡ true
    → (k ≡ l) × (r ≡ q) × (overlaps y z ≡ true)
region-overlap k l r q y z small little e =
    ⊎_elim
    (λ first.
    let h = region-begun k l r q y z small little first in
    (h.0, h.1, Rattle.std.proofs.lemmas.Bool.or_left _ _ h.2))
    (λ second.
    let h = region-begun l k q r z y little small second in
    (sym h.0, sym h.1, Rattle.std.proofs.lemmas.Bool.or_right (begins_with y z) _ h.2))
    (or_cases (begins_with (start_share (region_code k r) ++ y) (start_share (region_code l q) ++ z))
    (begins_with (start_share (region_code l q) ++ z) (start_share (region_code k r) ++ y)) e)

-- ---- pools

-- the runs of a pool's share, behind those of its region
abbrev pub odd_runs : List ℕ → ℕ → List ℕ
odd_runs parent number = map (λ n. 2 * n + 1) parent ++ 2 * number ∷ []

odd-begun : (p q : List ℕ) (i j : ℕ) (y z : List Half)
    → begins_with (start_share (odd_runs p i) ++ y) (start_share (odd_runs q j) ++ z) ≡ true
    → (p ≡ q) × (i ≡ j) × (begins_with y z ≡ true)
odd-begun [] [] i j y z e = let h = start-begun (2 * i) (2 * j) [] [] y z e in (refl, omega (arith, h.0), h.1)
odd-begun [] (n ∷ q) i j y z e =
    let h = start-begun (2 * i) (2 * n + 1) [] (odd_runs q j) y z e in absurd (omega (arith, h.0))
odd-begun (m ∷ p) [] i j y z e =
    let h = start-begun (2 * m + 1) (2 * j) (odd_runs p i) [] y z e in absurd (omega (arith, h.0))
odd-begun (m ∷ p) (n ∷ q) i j y z e =
    let h = start-begun (2 * m + 1) (2 * n + 1) (odd_runs p i) (odd_runs q j) y z e in
    let rest = odd-begun p q i j y z h.1 in
    let first : m ≡ n = omega (arith, h.0) in
    let others : p ≡ q = rest.0 in (cc, rest.1, rest.2)

odd-overlap : (p q : List ℕ) (i j : ℕ) (y z : List Half)
    → overlaps (start_share (odd_runs p i) ++ y) (start_share (odd_runs q j) ++ z) ≡ true → (p ≡ q) × (i ≡ j)
odd-overlap p q i j y z e =
    ⊎_elim
    (λ first. let h = odd-begun p q i j y z first in (h.0, h.1))
    (λ second. let h = odd-begun q p j i z y second in (sym h.0, sym h.1))
    (or_cases (begins_with (start_share (odd_runs p i) ++ y) (start_share (odd_runs q j) ++ z))
    (begins_with (start_share (odd_runs q j) ++ z) (start_share (odd_runs p i) ++ y)) e)

pub pool_runs-region : (root : ℕ) (parent : List ℕ) (number : ℕ) (y : List Half)
    → start_share (pool_runs root parent number) ++ y
    ≡ start_share (region_code 1 root) ++ (start_share (odd_runs parent number) ++ y)
pool_runs-region root parent number y =
    ap (λ runs. start_share runs ++ y)
    (append_assoc (region_code 1 root) (map (λ n. 2 * n + 1) parent) (2 * number ∷ []))
    ∙ ap (λ s. s ++ y) (start_share-append (region_code 1 root) (odd_runs parent number))
    ∙ append_assoc (start_share (region_code 1 root)) (start_share (odd_runs parent number)) y

-- ---- paths

pub same_path-true : (p q : List ℕ) → is_same_path p q ≡ true → p ≡ q
same_path-true [] [] e = refl
same_path-true [] (n ∷ q) e = absurd (false≢true e)
same_path-true (m ∷ p) [] e = absurd (false≢true e)
same_path-true (m ∷ p) (n ∷ q) e =
    let parts = and_parts (nat_eq m n) (is_same_path p q) e in
    let first : m ≡ n = eqb-true m n parts.0 in
    let rest : p ≡ q = same_path-true p q parts.1 in cc

pub same_path-itself : (p : List ℕ) → is_same_path p p ≡ true
same_path-itself [] = refl
same_path-itself (n ∷ p) = and_from _ _ (eq-eqb n n refl) (same_path-itself p)

-- ---- entry by entry

pub AreShifted-flat_map : (a s : List Half) (f g : Entry → List (List Half))
    → ((e : Entry) → AreShifted a s (f e) (g e)) → (es : List Entry)
    → AreShifted a s (flat_map f es) (flat_map g es)
AreShifted-flat_map a s f g each [] = record { there = λ y h. absurd h; back = λ x h over. absurd h }
AreShifted-flat_map a s f g each (e ∷ es) = join (AreShifted-flat_map a s f g each es)
  where
    first_shifted : (x : List Half) → IsShifted a x (g e) → IsShifted a x (g e ++ flat_map g es)
    first_shifted x (shifted y h same) = shifted y (IsShareIn-append_left y (g e) (flat_map g es) h) same

    later_shifted : (x : List Half) → IsShifted a x (flat_map g es) → IsShifted a x (g e ++ flat_map g es)
    later_shifted x (shifted y h same) = shifted y (IsShareIn-append_right y (g e) (flat_map g es) h) same

    join : AreShifted a s (flat_map f es) (flat_map g es)
        → AreShifted a s (f e ++ flat_map f es) (g e ++ flat_map g es)
    join rest = record {
      there = λ y h. ⊎_elim
          (λ (here : IsShareIn y (g e)).
          IsShareIn-append_left (a ++ y) (f e) (flat_map f es) ((each e).there y here))
          (λ (later : IsShareIn y (flat_map g es)).
          IsShareIn-append_right (a ++ y) (f e) (flat_map f es) (rest.there y later))
          (IsShareIn-append_cases y (g e) (flat_map g es) h);
      back = λ x h over. ⊎_elim
          (λ (here : IsShareIn x (f e)). first_shifted x ((each e).back x here over))
          (λ (later : IsShareIn x (flat_map f es)). later_shifted x (rest.back x later over))
          (IsShareIn-append_cases x (f e) (flat_map f es) h);
    }

-- the second share stands in a region of its own
pub second-region : (root : ℕ) (child : Option (List ℕ × ℕ)) (part : Part) (s y : List Half) (k : ℕ) → k < 3
    → (r : ℕ) → overlaps (second_code root child part s) (start_share (region_code k r) ++ y) ≡ true
    → (0 < k) × (root ≡ r)
second-region root None part s y k small r e =
    let h = region-overlap 2 k root r s y (omega arith) small e in (omega (arith, h.0), h.1)
second-region root (Some child) part s y k small r e =
    let h =
    region-overlap 1 k root r (start_share (odd_runs child.0 child.1) ++ part_halves part) y (omega arith)
    small
    (ap (λ x. overlaps x (start_share (region_code k r) ++ y))
    (sym (pool_runs-region root child.0 child.1 (part_halves part)))
    ∙ e) in
    (omega (arith, h.0), h.1)

pub cond_in : (b : Bool) (y t : List Half) → IsShareIn y (cond b (t ∷ []) []) → (b ≡ true) × (y ≡ t)
cond_in true y t h = ⊎_elim (λ (same : y ≡ t). (refl, same)) (λ none. absurd none) h
cond_in false y t h = absurd h

pub in_cond : (b : Bool) (t : List Half) → b ≡ true → IsShareIn t (cond b (t ∷ []) [])
in_cond true t e = inl refl
in_cond false t e = absurd (false≢true e)

tree_entry : (root : ℕ) (s : List Half) (e : Entry)
    → AreShifted (start_share (region_code 0 root)) s (codes e) (cond (e.root == root) (tree_share e ∷ []) [])
tree_entry root s e = record {
  there = λ y h.
      let is = cond_in (e.root == root) y (tree_share e) h in
      inl
      (ap (λ x. start_share (region_code 0 root) ++ x) is.1
      ∙ ap (λ r. tree_code r (tree_share e)) (sym (eqb-true e.root root is.0)));
  back = λ x h over.
      ⊎_elim
      (λ (first : x ≡ tree_code e.root (tree_share e)).
      let same =
      region-overlap 0 0 e.root root (tree_share e) s (omega arith) (omega arith)
      (ap (λ u. overlaps u (start_share (region_code 0 root) ++ s)) (sym first) ∙ over) in
      shifted (tree_share e) (in_cond (e.root == root) (tree_share e) (eq-eqb e.root root same.1))
      (first ∙ ap (λ r. tree_code r (tree_share e)) same.1))
      (λ (rest : (x ≡ second_code e.root (parent_and_number e.path) e.part (tree_share e)) ⊎ ⊥).
      ⊎_elim
      (λ (second : x ≡ second_code e.root (parent_and_number e.path) e.part (tree_share e)).
      let h =
      second-region e.root (parent_and_number e.path) e.part (tree_share e) s 0 (omega arith) root
      (ap (λ u. overlaps u (start_share (region_code 0 root) ++ s)) (sym second) ∙ over) in
      absurd (omega (arith, h.0)))
      (λ none. absurd none) rest)
      h;
}

-- shares in the tree of a root
pub tree-region : (root : ℕ) (s : List Half) (entries : List Entry)
    → AreShifted (start_share (region_code 0 root)) s (all_codes entries) (tree_shares root entries)
tree-region root s entries =
    AreShifted-flat_map (start_share (region_code 0 root)) s codes
    (λ e. cond (e.root == root) (tree_share e ∷ []) []) (tree_entry root s) entries

-- the halves of one child that came back with these entries
abbrev pub child_part : List ℕ → ℕ → Option (List ℕ × ℕ) → Part → List (List Half)
child_part parent number None part = []
child_part parent number (Some s) part =
    cond (is_same_path s.0 parent && (s.1 == number)) (part_halves part ∷ []) []

abbrev pub child_parts : ℕ → List ℕ → ℕ → List Entry → List (List Half)
child_parts root parent number entries =
    flat_map (λ e. cond (e.root == root) (child_part parent number (parent_and_number e.path) e.part) [])
    entries

pub second-here : (root : ℕ) (parent : List ℕ) (number : ℕ) (child : Option (List ℕ × ℕ)) (part : Part)
    (s y : List Half)
    → IsShareIn y (child_part parent number child part)
    → start_share (pool_runs root parent number) ++ y ≡ second_code root child part s
second-here root parent number None part s y h = absurd h
second-here root parent number (Some c) part s y h =
    let is = cond_in (is_same_path c.0 parent && (c.1 == number)) y (part_halves part) h in
    let both = and_parts (is_same_path c.0 parent) (c.1 == number) is.0 in
    ap (λ x. start_share (pool_runs root parent number) ++ x) is.1
    ∙ ap (λ p. start_share (pool_runs root p number) ++ part_halves part)
    (sym (same_path-true c.0 parent both.0))
    ∙ ap (λ n. start_share (pool_runs root c.0 n) ++ part_halves part) (sym (eqb-true c.1 number both.1))

pub second-back : (root : ℕ) (parent : List ℕ) (number : ℕ) (own : ℕ) (child : Option (List ℕ × ℕ))
    (part : Part) (s : List Half)
    → overlaps (second_code own child part s) (start_share (pool_runs root parent number) ++ []) ≡ true
    → (own ≡ root)
    × IsShifted (start_share (pool_runs root parent number)) (second_code own child part s)
    (child_part parent number child part)
second-back root parent number own None part s e =
    let h =
    region-overlap 2 1 own root s (start_share (odd_runs parent number) ++ []) (omega arith) (omega arith)
    (ap (overlaps (start_share (region_code 2 own) ++ s)) (sym (pool_runs-region root parent number []))
    ∙ e) in
    absurd (omega (arith, h.0))
second-back root parent number own (Some c) part s e =
    let h =
    region-overlap 1 1 own root (start_share (odd_runs c.0 c.1) ++ part_halves part)
    (start_share (odd_runs parent number) ++ []) (omega arith) (omega arith)
    (ap (overlaps (start_share (region_code 1 own) ++ (start_share (odd_runs c.0 c.1) ++ part_halves part)))
    (sym (pool_runs-region root parent number []))
    ∙ ap (λ x. overlaps x (start_share (pool_runs root parent number) ++ []))
    (sym (pool_runs-region own c.0 c.1 (part_halves part)))
    ∙ e) in
    let same = odd-overlap c.0 parent c.1 number (part_halves part) [] h.2 in (
      h.1,
      shifted (part_halves part)
          (in_cond (is_same_path c.0 parent && (c.1 == number)) (part_halves part)
          (and_from _ _ (ap (is_same_path c.0) (sym same.0) ∙ same_path-itself c.0)
          (eq-eqb c.1 number same.1)))
          (ap (λ r. start_share (pool_runs r c.0 c.1) ++ part_halves part) h.1
          ∙ ap (λ p. start_share (pool_runs root p c.1) ++ part_halves part) same.0
          ∙ ap (λ n. start_share (pool_runs root parent n) ++ part_halves part) same.1),
    )
