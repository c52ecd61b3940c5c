-- A purse as a tree: what each node records of the entered shares.
use Rattle.std.specs.Prelude.{◌≡◌, ◌≤◌, ◌<◌, ◌↔◌, ◌^◌, ◌+◌, ℕ, zero, suc, Bool, true, false, List, [], ◌∷◌}
use Rattle.std.specs.Prelude.{length, reverse, take, if◌then◌else◌, Option, None, Some, is_some, unwrap_or}
use Rattle.std.specs.Prelude.{nat_le, slice_get, slice_index, max}
use Rattle.std.specs.Option.{option_and_then, option_map_or}
use Rattle.credit_ledger.specs.declared.share.Half.{Half}
use Rattle.credit_ledger.specs.declared.tree.Run.{Run}
use Rattle.credit_ledger.specs.declared.tree.Progress.{Progress}
use Rattle.credit_ledger.specs.declared.tree.Node.{Node}
use Rattle.credit_ledger.specs.declared.tree.Tree.{Tree}
use Rattle.credit_ledger.specs.declared.tree.Start.{Start}
use Rattle.credit_ledger.specs.declared.tree.Walk.{Walk}
use Rattle.credit_ledger.specs.declared.tree.Walk.TheVariants.{Above, Missing, Found}
use Rattle.credit_ledger.specs.declared.links.Spot.TheVariants as spots
use Rattle.credit_ledger.specs.Shares.{begins_with, Hold}
use Rattle.credit_ledger.specs.Paths.{keeps, prefix}
use Rattle.credit_ledger.specs.Links.{spot_of, found, AreLinksRising}

-- nothing was entered at or below the node
abbrev pub no_progress : Progress
no_progress = record { run = None; held_children = 0; since = None }

abbrev pub empty_node : ℕ → Node
empty_node parent = record { parent = parent; reach = 0; progress = no_progress }

abbrev pub node_at : Tree → ℕ → Node
node_at tree index = unwrap_or (slice_get tree.nodes.items index) (empty_node 0)

-- the child of a node by its number
abbrev pub child : Tree → ℕ → ℕ → Option ℕ
child tree index number = found (spot_of tree.links.items index number)

-- the node to which the path leads
abbrev pub place : (ℕ → ℕ → Option ℕ) → List ℕ → Option ℕ
place children [] = Some 0
place children (number ∷ up) = option_and_then (λ index. children index number) (place children up)

-- what has come back there
abbrev pub progress_at : Tree → List ℕ → Progress
progress_at tree up =
    option_map_or (λ index. (node_at tree index).progress) (place (child tree) up) no_progress

-- when the run was entered, if it has at most this many Keep halves
abbrev pub time_within : Option Run → ℕ → Option ℕ
time_within None number = None
time_within (Some run) number = if nat_le run.keeps number then Some run.time else None

abbrev pub first_time : Option ℕ → Option ℕ → Option ℕ
first_time None second = second
first_time (Some time) second = Some time

-- when a share was entered that begins the share of this path and has fewer Give halves
abbrev pub time_above : (List ℕ → Progress) → List ℕ → Option ℕ
time_above at [] = None
time_above at (number ∷ up) = first_time (time_above at up) (time_within (at up).run number)

-- the first `depth` runs have nodes, and `index` is the last of them; if there is a next run, the search
-- for its node ended at this spot
abbrev pub IsSearchStart : Tree → List ℕ → Start → Type 0
IsSearchStart tree runs start =
    (start.depth ≤ length runs) × (place (child tree) (reverse (take start.depth runs)) ≡ Some start.index)
    × (start.depth < length runs
    → spot_of tree.links.items start.index (slice_index runs start.depth) ≡ spots.Missing start.at start.side)

-- where a walk down these runs ends
abbrev pub IsWalked : Tree → List ℕ → Walk → Type 0
IsWalked tree runs (Above time) = time_above (progress_at tree) (reverse runs) ≡ Some time
IsWalked tree runs (Missing start) =
    (time_above (progress_at tree) (reverse runs) ≡ None) × (place (child tree) (reverse runs) ≡ None)
    × IsSearchStart tree runs start
IsWalked tree runs (Found index) =
    (time_above (progress_at tree) (reverse runs) ≡ None) × (place (child tree) (reverse runs) ≡ Some index)

-- `since` is known, and at most `upto`
abbrev pub is_by : Option ℕ → ℕ → Bool
is_by None upto = false
is_by (Some since) upto = nat_le since upto

-- each edge leads to a node of its own
pub record IsTreeLinked (tree : Tree) : Type 0 where
  pub rising : AreLinksRising tree.links.items
  pub aligned : length tree.links.items ≡ length tree.nodes.items
  pub within : (i n k : ℕ) → child tree i n ≡ Some k → (i < k) × (k < length tree.nodes.items)
  pub back : (i n k : ℕ) → child tree i n ≡ Some k → (node_at tree k).parent ≡ i
  pub apart : (i m n k : ℕ) → child tree i m ≡ Some k → child tree i n ≡ Some k → m ≡ n
  pub reach : (i n k : ℕ) → child tree i n ≡ Some k → n < (node_at tree i).reach
  pub small : (i : ℕ) → (node_at tree i).reach ≤ 2 ^ 48 + 1

-- no share overlaps another one
abbrev pub IsApart : List (List Half) → Type 0
IsApart shares = (i j : ℕ) (s t : List Half) → slice_get shares i ≡ Some s → slice_get shares j ≡ Some t
    → begins_with s t ≡ true → i ≡ j

-- no shorter share begins this one
abbrev pub HasNoShorter : List (List Half) → List Half → Type 0
HasNoShorter shares s =
    (i : ℕ) (t : List Half) → slice_get shares i ≡ Some t → begins_with s t ≡ true → length s ≤ length t

-- `since` is the least count of shares at which the first ones hold the share, if they ever do
abbrev pub IsHeldFrom : List (List Half) → Option ℕ → List Half → Type 0
IsHeldFrom shares since s = (upto : ℕ) → (is_by since upto ≡ true) ↔ Hold (take upto shares) s

-- how many numbers below the bound pass
abbrev pub count_below : ℕ → (ℕ → Bool) → ℕ
count_below zero test = 0
count_below (suc bound) test = (if test bound then 1 else 0) + count_below bound test

-- what the nodes say of runs and counts is so
pub record AreRunsCounted (shares : List (List Half)) (at : List ℕ → Progress) : Type 0 where
  pub apart : IsApart shares
  pub run : (up : List ℕ) (run : Run) → (at up).run ≡ Some run
      → slice_get shares run.time ≡ Some (keeps (prefix up) run.keeps)
  pub entered : (time : ℕ) (up : List ℕ) (keeps_count : ℕ)
      → slice_get shares time ≡ Some (keeps (prefix up) keeps_count) → (at up).run ≡ Some
      (record { keeps = keeps_count; time = time })
  pub held : (up : List ℕ) → is_some (at up).since ≡ true → is_some (at up).run ≡ true
  pub count : (up : List ℕ) (bound : ℕ) → ((n : ℕ) → is_some (at (n ∷ up)).since ≡ true → n < bound)
      → count_below bound (λ n. is_some (at (n ∷ up)).since) ≡ (at up).held_children

-- what the nodes say is so
pub record IsTreeKnown (shares : List (List Half)) (at : List ℕ → Progress) : Type 0 where
  pub counted : AreRunsCounted shares at
  pub since : (up : List ℕ) → HasNoShorter shares (prefix up) → IsHeldFrom shares (at up).since (prefix up)

-- it is so but for this node and those above it, which the last share may have made held
pub record IsSettling (shares : List (List Half)) (at : List ℕ → Progress) (here : List ℕ) : Type 0 where
  pub counted : AreRunsCounted shares at
  pub clear : HasNoShorter shares (prefix here)
  pub unmarked : (up : List ℕ) → begins_with (prefix here) (prefix up) ≡ true → (at up).since ≡ None
  pub unheld : (up : List ℕ) → begins_with (prefix here) (prefix up) ≡ true → (upto : ℕ)
      → upto < length shares → Hold (take upto shares) (prefix up) → ⊥
  pub settled : (up : List ℕ) → begins_with (prefix here) (prefix up) ≡ false → HasNoShorter shares
      (prefix up) → IsHeldFrom shares (at up).since (prefix up)

-- the later one of two times, if both are known
abbrev pub both_of : Option ℕ → Option ℕ → Option ℕ
both_of None second = None
both_of (Some first) None = None
both_of (Some first) (Some second) = Some (max first second)

-- the least count of shares, at least `start`, at which so many children from number `first` on are held
abbrev pub since_all : (ℕ → Option ℕ) → ℕ → ℕ → ℕ → Option ℕ
since_all since start first zero = Some start
since_all since start first (suc count) = both_of (since_all since start first count) (since (first + count))

-- the least count of shares at which a child is held
abbrev pub child_since : Tree → ℕ → ℕ → Option ℕ
child_since tree index number =
    option_and_then (λ k. (node_at tree k).progress.since) (child tree index number)

-- the node is held: its run was entered, and as many children are held as the run has Keep halves
pub data IsFull (progress : Progress) : Type 0 where
  full : (run : Run) → progress.run ≡ Some run → progress.held_children ≡ run.keeps → IsFull progress

-- nodes were added, and nothing else was changed
pub record IsGrown (old new : Tree) : Type 0 where
  pub linked : IsTreeLinked new
  pub longer : length old.nodes.items ≤ length new.nodes.items
  pub same : (up : List ℕ) → progress_at new up ≡ progress_at old up
  pub kept : (up : List ℕ) (index : ℕ) → place (child old) up ≡ Some index → place (child new) up ≡ Some index

-- the node with a child of this number
abbrev pub with_reach : Node → ℕ → Node
with_reach node number = record node { reach = max node.reach (number + 1) }

-- the node with its run, with the count of shares at which it is held, and with one more held child
abbrev pub with_run : Node → Run → Node
with_run node run = record node { progress = record node.progress { run = Some run } }

abbrev pub with_since : Node → ℕ → Node
with_since node time = record node { progress = record node.progress { since = Some time } }

abbrev pub with_held_child : Node → Node
with_held_child node =
    record node { progress = record node.progress { held_children = node.progress.held_children + 1 } }
