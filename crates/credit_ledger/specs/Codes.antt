-- How a ledger keeps the shares of all roots and pools in one purse. Each root has three regions: one for
-- its tree, one for the pools below it, and one for its own second shares. No share in one region overlaps
-- a share in another. Two numbers name a region: three times the upper half of the root's number, plus the
-- region's kind; and the lower half. In the pools' region the numbers of a parent's path are odd, and the
-- child's number is even.
use Rattle.std.specs.Prelude.{ℕ, ◌+◌, ◌*◌, ◌/◌, ◌%◌, ◌^◌, List, [], ◌∷◌, ◌++◌, Option, None, Some, map}
use Rattle.std.specs.List.{flat_map}
use Rattle.ompt_events.specs.declared.records.Part.{Part}
use Rattle.ompt_events.specs.declared.records.Part.TheVariants.{Whole, Body, Event}
use Rattle.credit_ledger.specs.declared.share.Half.{Half}
use Rattle.credit_ledger.specs.Shares.{start_share}
use Rattle.credit_ledger.specs.declared.entry.Entry.{Entry}
use Rattle.credit_ledger.specs.declared.entry.Cover.{Cover}
use Rattle.credit_ledger.specs.declared.entry.Cover.TheVariants.{Children, Descendants}
use Rattle.credit_ledger.specs.Entries.{part_halves, tree_share, parent_and_number}

abbrev pub region_code : ℕ → ℕ → List ℕ
region_code kind root = (3 * (root / 2 ^ 32) + kind) ∷ (root % 2 ^ 32) ∷ []

-- the share that encodes a share of the root's credit
abbrev pub tree_code : ℕ → List Half → List Half
tree_code root s = start_share (region_code 0 root) ++ s

-- the share with which a child starts in its parent's pool
abbrev pub pool_runs : ℕ → List ℕ → ℕ → List ℕ
pool_runs root parent number = region_code 1 root ++ map (λ n. 2 * n + 1) parent ++ 2 * number ∷ []

-- the second share of an entry: that of its parent's pool; for a root, which has no parent, its first one
-- again
abbrev pub second_code : ℕ → Option (List ℕ × ℕ) → Part → List Half → List Half
second_code root None part s = start_share (region_code 2 root) ++ s
second_code root (Some child) part s = start_share (pool_runs root child.0 child.1) ++ part_halves part

abbrev pub codes : Entry → List (List Half)
codes e = tree_code e.root (tree_share e) ∷ second_code e.root (parent_and_number e.path) e.part
    (tree_share e) ∷ []

abbrev pub all_codes : List Entry → List (List Half)
all_codes entries = flat_map codes entries

-- the tree share of an entry as runs: how many Keep halves are before each Give half, and how many at the
-- end
abbrev pub tree_runs : List ℕ → ℕ → Part → List ℕ
tree_runs path kept Whole = path
tree_runs path kept Body = path
tree_runs path kept Event = path ++ kept ∷ []

abbrev pub tree_last : ℕ → Part → ℕ
tree_last kept Whole = kept
tree_last kept Body = kept + 1
tree_last kept Event = 0

-- the share with which a child starts
abbrev pub start_code : ℕ → List ℕ → ℕ → Cover → List Half
start_code root parent number Children = start_share (pool_runs root parent number)
start_code root parent number Descendants = tree_code root (start_share (parent ++ number ∷ []))
