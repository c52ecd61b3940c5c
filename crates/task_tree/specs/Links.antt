-- How many children each task has, and the links of the created ones, by index of the task.
use Rattle.std.specs.Prelude.{ℕ, ◌≡◌, ◌↔◌, ◌<◌, ◌≤◌, ◌+◌, List, length, sum, Option, Some, slice_get}
use Rattle.std.specs.Prelude.{slice_set, slice_index}
use Rattle.ompt_events.specs.declared.records.Record.{Record}
use Rattle.ompt_events.specs.Records.{creation}
use Rattle.ompt_events.specs.Places.{at}
use Rattle.ompt_events.specs.Tree.{children_before}
use Rattle.task_tree.specs.declared.links.Link.{Link}

-- at the index of each task, how many children it created by the first n records
pub record AreChildCounts (rs : List Record) (n : ℕ) (tasks counts : List ℕ) : Type 0 where
  pub all : length counts ≡ length tasks
  pub few : sum counts ≤ n
  pub each : (index task : ℕ) → slice_get tasks index ≡ Some task
      → slice_index counts index ≡ length (children_before rs task n)

-- the link is that of the task after the first n records: its parent created it as the child of that number
abbrev pub IsLink : List Record → ℕ → List ℕ → ℕ → Link → Type 0
IsLink rs n tasks task link =
    (parent : ℕ) × (slice_get tasks link.parent ≡ Some parent)
    × (slice_get (children_before rs parent n) link.number ≡ Some task)

-- at the index of each task that one of the first n records creates, if its parent is made: its link
pub record AreLinks (rs : List Record) (n : ℕ) (tasks : List ℕ) (links : List (Option Link)) : Type 0 where
  pub all : length links ≡ length tasks
  pub linked : (i parent task index up : ℕ) → i < n → at creation rs i ≡ Some (parent, task)
      → slice_get tasks index ≡ Some task → slice_get tasks up ≡ Some parent
      → (link : Link) × (slice_get links index ≡ Some (Some link)) × (link.parent ≡ up)
  pub only : (index task : ℕ) (link : Link) → slice_get tasks index ≡ Some task
      → slice_get links index ≡ Some (Some link) → IsLink rs n tasks task link

-- the index is that of the task, and no other is
pub record IsIndex (tasks : List ℕ) (task index : ℕ) : Type 0 where
  pub here : slice_get tasks index ≡ Some task
  pub alone : (other : ℕ) → slice_get tasks other ≡ Some task → other ≡ index

-- the slot has the index of the task in the list of tasks, and nothing else
abbrev pub IsSlotOf : List ℕ → ℕ → Option ℕ → Type 0
IsSlotOf tasks task slot = (k : ℕ) → (slot ≡ Some k) ↔ (slice_get tasks k ≡ Some task)

-- the parent has one child more: it is counted, and has its link; nothing changes if no record makes the
-- parent
pub data IsChildLinked (tasks : List ℕ) (parent child : ℕ) (counts : List ℕ) (links : List (Option Link))
    : List ℕ → List (Option Link) → Type 0 where
  unmade : ((up : ℕ) → slice_get tasks up ≡ Some parent → ⊥)
      → IsChildLinked tasks parent child counts links counts links
  counted : (up : ℕ) → IsIndex tasks parent up → ((own : ℕ) → slice_get tasks own ≡ Some child → ⊥)
      → IsChildLinked tasks parent child counts links (slice_set counts up (slice_index counts up + 1)) links
  linked : (up own : ℕ) → IsIndex tasks parent up → IsIndex tasks child own
      → IsChildLinked tasks parent child counts links (slice_set counts up (slice_index counts up + 1))
      (slice_set links own (Some (record { number = slice_index counts up; parent = up })))
