-- What the purse of a ledger tells of its entries.
use Rattle.std.proofs.Common.{◌≡◌, ℕ, zero, suc, ◌+◌, ◌*◌, ◌/◌, ◌^◌, ◌<◌, ◌≤◌, leb, Bool, true, false, cond}
use Rattle.std.proofs.Common.{List, [], ◌∷◌, ◌++◌, length, take, Option, None, Some, refl, sym, ◌∙◌, ap}
use Rattle.std.proofs.Common.{subst, arith, ⊎_elim, inl, inr, ◌⊎◌}
use Rattle.std.specs.Prelude.{◌==◌, ◌&&◌, ◌||◌, ◌↔◌}
use Rattle.std.specs.List.{list_any, position_from}
use Rattle.std.proofs.lemmas.Bool.{and_parts, and_from, false≢true, or_cases, or_left, or_right, eqb-true}
use Rattle.std.proofs.lemmas.Bool.{eq-eqb, leb-true, le-leb, lt-leb, cases_lt, cond-false}
use Rattle.std.proofs.lemmas.List.{append-nil, take_all}
use Rattle.ompt_events.specs.declared.records.Part.{Part}
use Rattle.credit_ledger.specs.declared.share.Half.{Half}
use Rattle.credit_ledger.specs.Shares.{begins_with, overlaps, overlaps_either, start_share, Hold}
use Rattle.credit_ledger.specs.Trees.{is_by}
use Rattle.credit_ledger.specs.declared.entry.Entry.{Entry}
use Rattle.credit_ledger.specs.declared.entry.Cover.{Cover}
use Rattle.credit_ledger.specs.declared.entry.Cover.TheVariants.{Children, Descendants}
use Rattle.credit_ledger.specs.Entries.{part_halves, tree_share, parent_and_number, pool_share, is_same_path}
use Rattle.credit_ledger.specs.Entries.{overlaps_in_pool, is_overlap, share_in_pool, tree_shares, pool_shares}
use Rattle.credit_ledger.specs.Entries.{IsChildHeld, entry_fault}
use Rattle.credit_ledger.specs.declared.fault.LedgerFault.TheVariants.{Memory, Overlap, Full}
use Rattle.std.specs.Option.{option_map_or}
use Rattle.credit_ledger.specs.Codes.{region_code, tree_code, pool_runs, second_code, codes, all_codes}
use Rattle.credit_ledger.specs.Codes.{start_code}
use Rattle.credit_ledger.proofs.RegionLemmas.{IsShareIn, IsShareIn-append_left, IsShareIn-append_right}
use Rattle.credit_ledger.proofs.RegionLemmas.{list_any-in}
use Rattle.credit_ledger.proofs.RegionLemmas.{begins_with-shift, IsShifted, shifted, AreShifted, Hold-outside}
use Rattle.credit_ledger.proofs.RegionLemmas.{Hold-inside}
use Rattle.credit_ledger.proofs.CodeLemmas.{start-begun, region-overlap, pool_runs-region, odd_runs}
use Rattle.credit_ledger.proofs.CodeLemmas.{same_path-true, AreShifted-flat_map, cond_in, in_cond}
use Rattle.credit_ledger.proofs.CodeLemmas.{tree-region}
use Rattle.credit_ledger.proofs.CodeLemmas.{child_part, child_parts, second-here, second-back}

-- ---- pools

IsShifted-under : (b : Bool) (a x : List Half) (ys : List (List Half)) → b ≡ true → IsShifted a x ys
    → IsShifted a x (cond b ys [])
IsShifted-under true a x ys e h = h
IsShifted-under false a x ys e h = absurd (false≢true e)

in_under : (b : Bool) (y : List Half) (ys : List (List Half)) → IsShareIn y (cond b ys [])
    → (b ≡ true) × IsShareIn y ys
in_under true y ys h = (refl, h)
in_under false y ys h = absurd h

under_in : (b : Bool) (y : List Half) (ys : List (List Half)) → b ≡ true → IsShareIn y ys
    → IsShareIn y (cond b ys [])
under_in true y ys e h = h
under_in false y ys e h = absurd (false≢true e)

pool_entry : (root : ℕ) (parent : List ℕ) (number : ℕ) (e : Entry)
    → AreShifted (start_share (pool_runs root parent number)) [] (codes e)
    (cond (e.root == root) (child_part parent number (parent_and_number e.path) e.part) [])
pool_entry root parent number e = record {
  there = λ y h.
      let is = in_under (e.root == root) y (child_part parent number (parent_and_number e.path) e.part) h in
      inr (inl (second-here root parent number (parent_and_number e.path) e.part (tree_share e) y is.1
      ∙ ap (λ r. second_code r (parent_and_number e.path) e.part (tree_share e))
      (sym (eqb-true e.root root is.0))));
  back = λ x h over.
      ⊎_elim
      (λ (first : x ≡ tree_code e.root (tree_share e)).
      let same =
      region-overlap 0 1 e.root root (tree_share e) (start_share (odd_runs parent number) ++ [])
      (omega arith) (omega arith)
      (ap (overlaps (tree_code e.root (tree_share e))) (sym (pool_runs-region root parent number []))
      ∙ ap (λ u. overlaps u (start_share (pool_runs root parent number) ++ [])) (sym first) ∙ over) in
      absurd (omega (arith, same.0)))
      (λ (rest : (x ≡ second_code e.root (parent_and_number e.path) e.part (tree_share e)) ⊎ ⊥).
      ⊎_elim
      (λ (second : x ≡ second_code e.root (parent_and_number e.path) e.part (tree_share e)).
      let is =
      second-back root parent number e.root (parent_and_number e.path) e.part (tree_share e)
      (ap (λ u. overlaps u (start_share (pool_runs root parent number) ++ [])) (sym second) ∙ over) in
      subst
      (λ u.
      IsShifted (start_share (pool_runs root parent number)) u
      (cond (e.root == root) (child_part parent number (parent_and_number e.path) e.part) []))
      (sym second)
      (IsShifted-under (e.root == root) (start_share (pool_runs root parent number))
      (second_code e.root (parent_and_number e.path) e.part (tree_share e))
      (child_part parent number (parent_and_number e.path) e.part) (eq-eqb e.root root is.0) is.1))
      (λ none. absurd none) rest)
      h;
}

pool-region : (root : ℕ) (parent : List ℕ) (number : ℕ) (entries : List Entry)
    → AreShifted (start_share (pool_runs root parent number)) [] (all_codes entries)
    (child_parts root parent number entries)
pool-region root parent number entries =
    AreShifted-flat_map (start_share (pool_runs root parent number)) [] codes
    (λ e. cond (e.root == root) (child_part parent number (parent_and_number e.path) e.part) [])
    (pool_entry root parent number) entries

-- the same without the regions
own-there : (parent : List ℕ) (number : ℕ) (child : Option (List ℕ × ℕ)) (part : Part) (y : List Half)
    → IsShareIn y (child_part parent number child part)
    → IsShareIn (start_share (number ∷ []) ++ y) (share_in_pool parent child part)
own-there parent number None part y h = absurd h
own-there parent number (Some c) part y h =
    let is = cond_in (is_same_path c.0 parent && (c.1 == number)) y (part_halves part) h in
    let both = and_parts (is_same_path c.0 parent) (c.1 == number) is.0 in
    let same : start_share (number ∷ []) ++ y ≡ pool_share c.1 part =
    ap (λ x. start_share (number ∷ []) ++ x) is.1
    ∙ ap (λ n. pool_share n part) (sym (eqb-true c.1 number both.1)) in
    subst (λ x. IsShareIn x (share_in_pool parent (Some c) part)) (sym same)
    (in_cond (is_same_path c.0 parent) (pool_share c.1 part) both.0)

own-back : (parent : List ℕ) (number : ℕ) (child : Option (List ℕ × ℕ)) (part : Part) (x : List Half)
    → IsShareIn x (share_in_pool parent child part) → overlaps x (start_share (number ∷ []) ++ []) ≡ true
    → IsShifted (start_share (number ∷ [])) x (child_part parent number child part)
own-back parent number None part x h over = absurd h
own-back parent number (Some c) part x h over =
    let is = cond_in (is_same_path c.0 parent) x (pool_share c.1 part) h in
    let over_own : overlaps (pool_share c.1 part) (start_share (number ∷ []) ++ []) ≡ true =
    ap (λ u. overlaps u (start_share (number ∷ []) ++ [])) (sym is.1) ∙ over in
    let same : c.1 ≡ number =
    ⊎_elim (λ first. (start-begun c.1 number [] [] (part_halves part) [] first).0)
    (λ second. sym (start-begun number c.1 [] [] [] (part_halves part) second).0)
    (or_cases (begins_with (pool_share c.1 part) (start_share (number ∷ []) ++ []))
    (begins_with (start_share (number ∷ []) ++ []) (pool_share c.1 part)) over_own) in
    shifted (part_halves part)
    (in_cond (is_same_path c.0 parent && (c.1 == number)) (part_halves part)
    (and_from _ _ is.0 (eq-eqb c.1 number same)))
    (is.1 ∙ ap (λ n. pool_share n part) same)

own-region : (root : ℕ) (parent : List ℕ) (number : ℕ) (entries : List Entry)
    → AreShifted (start_share (number ∷ [])) [] (pool_shares root parent entries)
    (child_parts root parent number entries)
own-region root parent number entries =
    AreShifted-flat_map (start_share (number ∷ [])) []
    (λ e. cond (e.root == root) (share_in_pool parent (parent_and_number e.path) e.part) [])
    (λ e. cond (e.root == root) (child_part parent number (parent_and_number e.path) e.part) [])
    (λ e. record {
      there = λ y h.
          let is =
          in_under (e.root == root) y (child_part parent number (parent_and_number e.path) e.part) h in
          under_in (e.root == root) (start_share (number ∷ []) ++ y)
          (share_in_pool parent (parent_and_number e.path) e.part) is.0
          (own-there parent number (parent_and_number e.path) e.part y is.1);
      back = λ x h over.
          let is = in_under (e.root == root) x (share_in_pool parent (parent_and_number e.path) e.part) h in
          IsShifted-under (e.root == root) (start_share (number ∷ [])) x
          (child_part parent number (parent_and_number e.path) e.part) is.0
          (own-back parent number (parent_and_number e.path) e.part x is.1 over);
    }) entries

-- ---- what is held

pub Hold-in_tree : (root : ℕ) (s : List Half) (entries : List Entry)
    → Hold (all_codes entries) (tree_code root s) ↔ Hold (tree_shares root entries) s
Hold-in_tree root s entries = (
  Hold-outside (start_share (region_code 0 root)) s (all_codes entries) (tree_shares root entries)
      (tree-region root s entries),
  Hold-inside (start_share (region_code 0 root)) s (all_codes entries) (tree_shares root entries)
      (tree-region root s entries),
)

pub Hold-in_pool : (root : ℕ) (parent : List ℕ) (number : ℕ) (entries : List Entry)
    → Hold (all_codes entries) (start_share (pool_runs root parent number))
    ↔ Hold (pool_shares root parent entries) (start_share (number ∷ []))
Hold-in_pool root parent number entries =
    let code = start_share (pool_runs root parent number) in
    let own = start_share (number ∷ []) in
    let parts = child_parts root parent number entries in (
      (λ held. subst (λ s. Hold (pool_shares root parent entries) s) (append-nil own)
          (Hold-inside own [] (pool_shares root parent entries) parts (own-region root parent number entries)
          (Hold-outside code [] (all_codes entries) parts (pool-region root parent number entries)
          (subst (λ s. Hold (all_codes entries) s) (sym (append-nil code)) held)))),
      (λ held. subst (λ s. Hold (all_codes entries) s) (append-nil code)
          (Hold-inside code [] (all_codes entries) parts (pool-region root parent number entries)
          (Hold-outside own [] (pool_shares root parent entries) parts (own-region root parent number entries)
          (subst (λ s. Hold (pool_shares root parent entries) s) (sym (append-nil own)) held)))),
    )

-- the first entries' shares
pub take-all_codes : (entries : List Entry) (n : ℕ)
    → take (2 * n) (all_codes entries) ≡ all_codes (take n entries)
take-all_codes entries zero = refl
take-all_codes [] (suc n) =
    let e : 2 * suc n ≡ suc (suc (2 * n)) = omega arith in ap (λ k. take k (all_codes [])) e
take-all_codes (e ∷ entries) (suc n) =
    let more : 2 * suc n ≡ suc (suc (2 * n)) = omega arith in
    ap (λ k. take k (all_codes (e ∷ entries))) more
    ∙ ap
    (λ rest.
    tree_code e.root (tree_share e)
    ∷ second_code e.root (parent_and_number e.path) e.part (tree_share e) ∷ rest)
    (take-all_codes entries n)

-- ---- what overlaps

IsShareIn-codes : (f : Entry) (entries : List Entry) (test : Entry → Bool) → list_any test entries ≡ true
    → (P : Entry → Type 0) → ((g : Entry) → test g ≡ true → P g)
    → (g : Entry) × (P g) × ((x : List Half) → IsShareIn x (codes g) → IsShareIn x (all_codes entries))
IsShareIn-codes f [] test h P each = absurd (false≢true h)
IsShareIn-codes f (g ∷ entries) test h P each =
    ⊎_elim
    (λ (here : test g ≡ true).
    (g, each g here, λ x i. IsShareIn-append_left x (codes g) (all_codes entries) i))
    (λ (later : list_any test entries ≡ true).
    let rest = IsShareIn-codes f entries test later P each in
    (rest.0, rest.1, λ x i. IsShareIn-append_right x (codes g) (all_codes entries) (rest.2 x i)))
    (or_cases (test g) (list_any test entries) h)

pub overlaps-shift : (a x y : List Half) → overlaps (a ++ x) (a ++ y) ≡ overlaps x y
overlaps-shift a x y =
    ap (λ b. b || begins_with (a ++ y) (a ++ x)) (begins_with-shift a x y)
    ∙ ap (λ b. begins_with x y || b) (begins_with-shift a y x)

overlap-codes : (root : ℕ) (p : Option (List ℕ × ℕ)) (part : Part) (s : List Half) (q : Option (List ℕ × ℕ))
    (other : Part) (t : List Half)
    → overlaps_in_pool p part q other ≡ true
    → overlaps (second_code root p part s) (second_code root q other t) ≡ true
overlap-codes root None part s q other t h = absurd (false≢true h)
overlap-codes root (Some c) part s None other t h = absurd (false≢true h)
overlap-codes root (Some c) part s (Some d) other t h =
    let both = and_parts (is_same_path c.0 d.0) (overlaps (pool_share c.1 part) (pool_share d.1 other)) h in
    let numbers : c.1 ≡ d.1 =
    ⊎_elim (λ first. (start-begun c.1 d.1 [] [] (part_halves part) (part_halves other) first).0)
    (λ second. sym (start-begun d.1 c.1 [] [] (part_halves other) (part_halves part) second).0)
    (or_cases (begins_with (pool_share c.1 part) (pool_share d.1 other))
    (begins_with (pool_share d.1 other) (pool_share c.1 part)) both.1) in
    let parts : overlaps (part_halves part) (part_halves other) ≡ true =
    sym (overlaps-shift (start_share (c.1 ∷ [])) (part_halves part) (part_halves other))
    ∙ ap (λ n. overlaps (pool_share c.1 part) (pool_share n other)) numbers ∙ both.1 in
    ap
    (λ n.
    overlaps (second_code root (Some c) part s)
    (start_share (pool_runs root d.0 n) ++ part_halves other))
    (sym numbers)
    ∙ ap
    (λ r.
    overlaps (second_code root (Some c) part s)
    (start_share (pool_runs root r c.1) ++ part_halves other))
    (sym (same_path-true c.0 d.0 both.0))
    ∙ overlaps-shift (start_share (pool_runs root c.0 c.1)) (part_halves part) (part_halves other) ∙ parts

-- an entry that overlaps another one has a share that overlaps one of the purse
pub overlaps_either-entry : (e : Entry) (entries : List Entry) → list_any (is_overlap e) entries ≡ true
    → overlaps_either (tree_code e.root (tree_share e))
    (second_code e.root (parent_and_number e.path) e.part (tree_share e)) (all_codes entries)
    ≡ true
overlaps_either-entry e entries h =
    let some = IsShareIn-codes e entries (is_overlap e) h (λ g. is_overlap e g ≡ true) (λ g t. t) in
    let g = some.0 in
    let both =
    and_parts (e.root == g.root)
    (overlaps (tree_share e) (tree_share g)
    || overlaps_in_pool (parent_and_number e.path) e.part (parent_and_number g.path) g.part)
    some.1 in
    let root : g.root ≡ e.root = sym (eqb-true e.root g.root both.0) in
    ⊎_elim
    (λ (tree : overlaps (tree_share e) (tree_share g) ≡ true).
    or_left _ _ (or_left _ _ (list_any-in (overlaps (tree_code e.root (tree_share e)))
    (tree_code g.root (tree_share g)) (all_codes entries)
    (some.2 (tree_code g.root (tree_share g)) (inl refl))
    (ap (λ r. overlaps (tree_code e.root (tree_share e)) (tree_code r (tree_share g))) root
    ∙ overlaps-shift (start_share (region_code 0 e.root)) (tree_share e) (tree_share g) ∙ tree))))
    (λ (pool : overlaps_in_pool (parent_and_number e.path) e.part (parent_and_number g.path) g.part ≡ true).
    or_left _ _ (or_right (list_any (overlaps (tree_code e.root (tree_share e))) (all_codes entries)) _
    (list_any-in (overlaps (second_code e.root (parent_and_number e.path) e.part (tree_share e)))
    (second_code g.root (parent_and_number g.path) g.part (tree_share g)) (all_codes entries)
    (some.2 (second_code g.root (parent_and_number g.path) g.part (tree_share g)) (inr (inl refl)))
    (
    ap
    (λ r.
    overlaps (second_code e.root (parent_and_number e.path) e.part (tree_share e))
    (second_code r (parent_and_number g.path) g.part (tree_share g)))
    root
    ∙ overlap-codes e.root (parent_and_number e.path) e.part (tree_share e) (parent_and_number g.path) g.part
    (tree_share g) pool))))
    (or_cases (overlaps (tree_share e) (tree_share g))
    (overlaps_in_pool (parent_and_number e.path) e.part (parent_and_number g.path) g.part) both.1)

-- ---- from when a child is held

-- the length of a ledger after so many of its shares
abbrev pub length_after : Option ℕ → Option ℕ
length_after None = None
length_after (Some shares) = Some ((shares + 1) / 2)

is_by-length_after : (since : Option ℕ) (upto : ℕ)
    → (is_by (length_after since) upto ≡ true) ↔ (is_by since (2 * upto) ≡ true)
is_by-length_after None upto = ((λ by. by), (λ by. by))
is_by-length_after (Some x) upto = (
  (λ by. let less = leb-true ((x + 1) / 2) upto by in le-leb x (2 * upto) (omega arith)),
  (λ by. let less = leb-true x (2 * upto) by in le-leb ((x + 1) / 2) upto (omega arith)),
)

IsChildHeld-codes : (root : ℕ) (parent : List ℕ) (number : ℕ) (cover : Cover) (entries : List Entry)
    → Hold (all_codes entries) (start_code root parent number cover)
    ↔ IsChildHeld entries root parent number cover
IsChildHeld-codes root parent number Children entries = Hold-in_pool root parent number entries
IsChildHeld-codes root parent number Descendants entries =
    Hold-in_tree root (start_share (parent ++ number ∷ [])) entries

pub IsChildHeld-since : (root : ℕ) (parent : List ℕ) (number : ℕ) (cover : Cover) (entries : List Entry)
    (since : Option ℕ)
    → ((upto : ℕ)
    → (is_by since upto ≡ true)
    ↔ Hold (take upto (all_codes entries)) (start_code root parent number cover))
    → (upto : ℕ)
    → (is_by (length_after since) upto ≡ true) ↔ IsChildHeld (take upto entries) root parent number cover
IsChildHeld-since root parent number cover entries since from upto = (
  (λ by. (IsChildHeld-codes root parent number cover (take upto entries)).0
      (subst (λ xs. Hold xs (start_code root parent number cover)) (take-all_codes entries upto)
      ((from (2 * upto)).0 ((is_by-length_after since upto).0 by)))),
  (λ held. (is_by-length_after since upto).1 ((from (2 * upto)).1
      (subst (λ xs. Hold xs (start_code root parent number cover)) (sym (take-all_codes entries upto))
      ((IsChildHeld-codes root parent number cover (take upto entries)).1 held)))),
)

-- no more shares are needed than there are
pub since-bounded : (shares : List (List Half)) (s : List Half) (x : ℕ)
    → ((upto : ℕ) → (is_by (Some x) upto ≡ true) ↔ Hold (take upto shares) s) → x ≤ length shares
since-bounded shares s x from =
    ⊎_elim
    (λ (more : length shares < x).
    let all : take x shares ≡ shares = take_all x shares (omega arith) in
    let same : take (length shares) shares ≡ shares = take_all (length shares) shares (omega arith) in
    leb-true x (length shares)
    ((from (length shares)).1
    (subst (λ xs. Hold xs s) (all ∙ sym same) ((from x).0 (le-leb x x (omega arith))))))
    (λ (less : x ≤ length shares). less)
    (cases_lt (length shares) x)

pub length-all_codes : (entries : List Entry) → length (all_codes entries) ≡ 2 * length entries
length-all_codes [] = refl
length-all_codes (e ∷ entries) = omega (arith, length-all_codes entries)

pub since-seen : (purse : List (List Half)) (entries seen : List Entry) (code start : List Half)
    (since : Option ℕ)
    → purse ≡ all_codes entries → entries ≡ seen → code ≡ start
    → ((upto : ℕ) → (is_by since upto ≡ true) ↔ Hold (take upto purse) code) → (upto : ℕ)
    → (is_by since upto ≡ true) ↔ Hold (take upto (all_codes seen)) start
since-seen purse entries seen code start since shares view same from upto =
    subst (λ s. (is_by since upto ≡ true) ↔ Hold (take upto (all_codes seen)) s) same
    (subst (λ xs. (is_by since upto ≡ true) ↔ Hold (take upto xs) code) (shares ∙ ap all_codes view)
    (from upto))

-- why an entry is refused where there is room
pub fault_of-room : (entries : List Entry) (e : Entry) → length entries < 2 ^ 22
    → entry_fault entries e
    ≡ option_map_or (λ index. Overlap index) (position_from (is_overlap e) 0 entries) Memory
fault_of-room entries e room =
    cond-false (leb (2 ^ 22) (length entries)) Full
    (option_map_or (λ index. Overlap index) (position_from (is_overlap e) 0 entries) Memory)
    (lt-leb (2 ^ 22) (length entries) room)
