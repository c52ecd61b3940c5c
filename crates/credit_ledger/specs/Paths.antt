-- The path of a share: how many Keep halves are before each of its Give halves, the last Give half first,
-- and how many are behind the last one. The order is that of a walk from a node up to the root.
use Rattle.std.specs.Prelude.{ℕ, ◌+◌, List, [], ◌∷◌, ◌++◌, replicate}
use Rattle.credit_ledger.specs.declared.share.Half.{Half}
use Rattle.credit_ledger.specs.declared.share.Half.TheVariants.{Keep, Give}
use Rattle.credit_ledger.specs.Shares.{give_half}

-- the share followed by this many Keep halves
abbrev pub keeps : List Half → ℕ → List Half
keeps s count = s ++ replicate count Keep

-- the share of the node to which this path leads: it ends with a Give half, or is the whole
abbrev pub prefix : List ℕ → List Half
prefix [] = []
prefix (number ∷ up) = give_half (keeps (prefix up) number)

-- the path so far and the Keep halves behind it, after these further halves
abbrev pub path_from : List ℕ → ℕ → List Half → List ℕ × ℕ
path_from up last [] = (up, last)
path_from up last (Keep ∷ s) = path_from up (last + 1) s
path_from up last (Give ∷ s) = path_from (last ∷ up) 0 s

-- the path of the share, and the Keep halves behind it
abbrev pub path_of : List Half → List ℕ × ℕ
path_of s = path_from [] 0 s
