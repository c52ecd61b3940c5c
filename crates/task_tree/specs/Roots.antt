-- The root of each task, by index of the task, while the tree is visited from its roots down.
use Rattle.std.specs.Prelude.{◌≤◌, ◌+◌, ℕ, zero, suc, ◌≡◌, ◌<◌, ◌++◌, ◌∷◌, [], List, length, Option, Some}
use Rattle.std.specs.Prelude.{None, Contains, slice_get, slice_set}
use Rattle.ompt_events.specs.declared.records.Record.{Record}
use Rattle.ompt_events.specs.Records.{begun_root}
use Rattle.ompt_events.specs.Places.{at}
use Rattle.ompt_events.specs.Tree.{IsRooted, HasPath}
use Rattle.task_tree.specs.declared.roots.Reached.{Reached}
use Rattle.task_tree.specs.declared.roots.Standing.{Standing}

-- the task has this standing: its root, and how many steps below it the task is
abbrev pub StandsAt : List Record → ℕ → Standing → Type 0
StandsAt rs task standing =
    (path : List ℕ) × HasPath rs standing.root task path × (length path ≡ standing.depth)

-- at the index of each task its standing, or nothing if its chain of parents reaches no root
pub record AreRoots (rs : List Record) (tasks : List ℕ) (roots : List (Option Standing)) : Type 0 where
  pub all : length roots ≡ length tasks
  pub rooted : (index task : ℕ) (standing : Standing) → slice_get tasks index ≡ Some task
      → slice_get roots index ≡ Some (Some standing) → StandsAt rs task standing
  pub unrooted : (index task : ℕ) → slice_get tasks index ≡ Some task → slice_get roots index ≡ Some None
      → IsRooted rs task → ⊥

-- the task was reached before, or none has its id; or it is reached now
pub data Reaches (tasks : List ℕ) (task : ℕ) (standing : Standing) (roots : List (Option Standing))
    (order : List Reached) : List (Option Standing) → List Reached → Type 0 where
  known : ((index : ℕ) → slice_get tasks index ≡ Some task → (other : Standing) ×
      (slice_get roots index ≡ Some (Some other)))
      → Reaches tasks task standing roots order roots order
  new : (index : ℕ) → slice_get tasks index ≡ Some task →
      ((other : ℕ) → slice_get tasks other ≡ Some task → other ≡ index)
      → slice_get roots index ≡ Some None
      → Reaches tasks task standing roots order (slice_set roots index (Some standing))
      (order ++ record { index = index; standing = standing } ∷ [])

-- tasks were reached one after another
pub data Spreads (tasks : List ℕ) (standing : Standing) (roots : List (Option Standing))
    (order : List Reached) : List ℕ → List (Option Standing) → List Reached → Type 0 where
  none : Spreads tasks standing roots order [] roots order
  more : {before : List ℕ} {roots_then : List (Option Standing)} {order_then : List Reached}
      (task : ℕ) {roots_now : List (Option Standing)} {order_now : List Reached}
      → Spreads tasks standing roots order before roots_then order_then
      → Reaches tasks task standing roots_then order_then roots_now order_now
      → Spreads tasks standing roots order (before ++ task ∷ []) roots_now order_now

-- how many tasks have no root
abbrev pub missing : List (Option Standing) → ℕ
missing [] = zero
missing (None ∷ roots) = suc (missing roots)
missing (Some standing ∷ roots) = missing roots

-- the roots that are known are those of the tasks that were reached
pub record IsReach (rs : List Record) (tasks : List ℕ) (roots : List (Option Standing))
    (order : List Reached) : Type 0 where
  pub all : length roots ≡ length tasks
  pub sound : (index task : ℕ) (standing : Standing) → slice_get tasks index ≡ Some task
      → slice_get roots index ≡ Some (Some standing) → StandsAt rs task standing
  pub listed : (index : ℕ) (standing : Standing) → slice_get roots index ≡ Some (Some standing)
      → Contains order (record { index = index; standing = standing })
  pub known : (entry : Reached) → Contains order entry → slice_get roots entry.index ≡ Some
      (Some entry.standing)
  pub total : missing roots + length order ≡ length tasks
  -- a task is reached after all above it
  pub shallow : (k : ℕ) (entry : Reached) → slice_get order k ≡ Some entry → entry.standing.depth ≤ k

-- the roots that begin by the first n records are reached
pub record IsSeeded (rs : List Record) (n : ℕ) (tasks : List ℕ) (roots : List (Option Standing))
    (order : List Reached) : Type 0 where
  pub reach : IsReach rs tasks roots order
  pub seeded : (i task index : ℕ) → i < n → at begun_root rs i ≡ Some task → slice_get tasks index ≡ Some task
      → (standing : Standing) × (slice_get roots index ≡ Some (Some standing))
