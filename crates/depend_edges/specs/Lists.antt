-- Where the dependences of each task are listed.
use Rattle.std.specs.Prelude.{ℕ, ◌≡◌, ◌<◌, true, List, length, Option, Some, Contains, is_some, slice_get}
use Rattle.ompt_events.specs.declared.records.Record.{Record}
use Rattle.ompt_events.specs.declared.deps.Dep.{Dep}
use Rattle.ompt_events.specs.Records.{dependences}
use Rattle.ompt_events.specs.Places.{at}

-- by index of the task the place of its list among the first n records
pub record AreListed (rs : List Record) (n : ℕ) (tasks : List ℕ) (lists : List (Option ℕ)) : Type 0 where
  pub all : length lists ≡ length tasks
  pub each : (index task i : ℕ) (items : List Dep) → slice_get tasks index ≡ Some task → i < n
      → at dependences rs i ≡ Some (task, items) → slice_get lists index ≡ Some (Some i)
  pub only : (index i : ℕ) → slice_get lists index ≡ Some (Some i)
      → (task : ℕ) × (items : List Dep) × (slice_get tasks index ≡ Some task)
      × (at dependences rs i ≡ Some (task, items))

-- no task's dependences are listed twice
abbrev pub AreListedOnce : List Record → Type 0
AreListedOnce rs = (i k task : ℕ) (items other : List Dep) → at dependences rs i ≡ Some (task, items)
    → at dependences rs k ≡ Some (task, other) → i ≡ k

-- some task has a list
abbrev pub HasList : List (Option ℕ) → Type 0
HasList lists = (slot : Option ℕ) × Contains lists slot × (is_some slot ≡ true)
