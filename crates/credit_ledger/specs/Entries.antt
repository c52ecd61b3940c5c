-- What an entry of the ledger brings back, and what a ledger holds (F. Mattern, Information Processing
-- Letters 30, 1989).
use Rattle.std.specs.Prelude.{◌≤◌, ◌<◌, ◌^◌, ◌==◌, ◌&&◌, ◌||◌, ℕ, Bool, false, List, [], ◌∷◌, ◌++◌, length}
use Rattle.std.specs.Prelude.{Option, None, Some, if◌then◌else◌, nat_eq, nat_le}
use Rattle.std.specs.List.{flat_map, position_from}
use Rattle.std.specs.Option.{option_map_or}
use Rattle.std.specs.Cmp.Lexicographic.{pointwise}
use Rattle.ompt_events.specs.declared.records.Part.{Part}
use Rattle.ompt_events.specs.declared.records.Part.TheVariants.{Whole, Body, Event}
use Rattle.credit_ledger.specs.declared.share.Half.{Half}
use Rattle.credit_ledger.specs.declared.share.Half.TheVariants.{Keep, Give}
use Rattle.credit_ledger.specs.Shares.{overlaps, start_share, finish_share, Hold}
use Rattle.credit_ledger.specs.declared.entry.Entry.{Entry}
use Rattle.credit_ledger.specs.declared.entry.Span.{Span}
use Rattle.credit_ledger.specs.declared.entry.Cover.{Cover}
use Rattle.credit_ledger.specs.declared.entry.Cover.TheVariants.{Children, Descendants}
use Rattle.credit_ledger.specs.declared.fault.LedgerFault.{LedgerFault}
use Rattle.credit_ledger.specs.declared.fault.LedgerFault.TheVariants.{Memory, Overlap, Full}

-- a detached task halves its share once more: one half comes back with its body, the other with its event
abbrev pub part_halves : Part → List Half
part_halves Whole = []
part_halves Body = Keep ∷ []
part_halves Event = Give ∷ []

-- the share of the root's credit that comes back with an entry
abbrev pub tree_share : Entry → List Half
tree_share e = finish_share e.path e.kept ++ part_halves e.part

-- the path of the parent, and the task's number among its children; none for a root
abbrev pub parent_and_number : List ℕ → Option (List ℕ × ℕ)
parent_and_number [] = None
parent_and_number (n ∷ path) = Some (option_map_or (λ s. (n ∷ s.0, s.1)) (parent_and_number path) ([], n))

-- the share of the credit of its parent's child tasks that comes back with an entry
abbrev pub pool_share : ℕ → Part → List Half
pool_share number part = start_share (number ∷ []) ++ part_halves part

abbrev pub is_same_path : List ℕ → List ℕ → Bool
is_same_path p q = pointwise nat_eq p q

-- two such shares, of children of one task, overlap
abbrev pub overlaps_in_pool : Option (List ℕ × ℕ) → Part → Option (List ℕ × ℕ) → Part → Bool
overlaps_in_pool None part other other_part = false
overlaps_in_pool (Some s) part None other_part = false
overlaps_in_pool (Some s) part (Some t) other_part =
    is_same_path s.0 t.0 && overlaps (pool_share s.1 part) (pool_share t.1 other_part)

-- a share of one entry overlaps one of the other entry, of the same credit
abbrev pub is_overlap : Entry → Entry → Bool
is_overlap e f =
    (e.root == f.root)
    && (overlaps (tree_share e) (tree_share f) || overlaps_in_pool (parent_and_number e.path) e.part
    (parent_and_number f.path) f.part)

-- the shares of the root's credit that came back with these entries
abbrev pub tree_shares : ℕ → List Entry → List (List Half)
tree_shares root entries = flat_map (λ e. if e.root == root then tree_share e ∷ [] else []) entries

-- the share of the pool of this parent that the entry brings back, if it is a child of it
abbrev pub share_in_pool : List ℕ → Option (List ℕ × ℕ) → Part → List (List Half)
share_in_pool parent None part = []
share_in_pool parent (Some s) part = if is_same_path s.0 parent then pool_share s.1 part ∷ [] else []

-- the shares of the credit of this task's child tasks that came back with these entries
abbrev pub pool_shares : ℕ → List ℕ → List Entry → List (List Half)
pool_shares root parent entries = flat_map (λ e. if e.root == root then share_in_pool parent
    (parent_and_number e.path) e.part else []) entries

-- the entries hold the share with which a child of a task starts: in the tree where it is to be complete
-- with all its descendants, in its parent's pool where it alone is
abbrev pub IsChildHeld : List Entry → ℕ → List ℕ → ℕ → Cover → Type 0
IsChildHeld entries root parent number Descendants =
    Hold (tree_shares root entries) (start_share (parent ++ number ∷ []))
IsChildHeld entries root parent number Children =
    Hold (pool_shares root parent entries) (start_share (number ∷ []))

-- the entries hold each child of the span
abbrev pub IsSpanHeld : List Entry → Span → Cover → Type 0
IsSpanHeld entries span cover = (number : ℕ) → span.from ≤ number → number < span.to
    → IsChildHeld entries span.root span.path number cover

-- the ledger is full: it has at least 2^22 entries
abbrev pub is_ledger_full : List Entry → Bool
is_ledger_full entries = nat_le (2 ^ 22) (length entries)

-- why an entry is refused
abbrev pub entry_fault : List Entry → Entry → LedgerFault
entry_fault entries e = if is_ledger_full entries then Full else option_map_or (λ index. Overlap index)
    (position_from (is_overlap e) 0 entries) Memory
