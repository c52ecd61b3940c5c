-- The tasks that each record names, by their indices.
use Rattle.std.specs.Prelude.{ℕ, ◌≡◌, ◌<◌, List, length, Option, Some, None, Contains, IfSome, slice_get}
use Rattle.ompt_events.specs.declared.records.Record.{Record}
use Rattle.ompt_events.specs.declared.records.Body.{Body}
use Rattle.ompt_events.specs.Records.{claim, region_named}
use Rattle.ompt_events.specs.Places.{at}
use Rattle.packed_trace.specs.Named.{object, subject}

-- the slot has the index of the task in the list of tasks, or nothing if the list does not have the task
abbrev pub Finds : List ℕ → Option ℕ → Option ℕ → Type 0
Finds tasks found None = (task : ℕ) → found ≡ Some task → Contains tasks task → ⊥
Finds tasks found (Some index) = (task : ℕ) × (found ≡ Some task) × (slice_get tasks index ≡ Some task)

-- the same if the list has each task that is named
abbrev pub Calls : List ℕ → Option ℕ → Option ℕ → Type 0
Calls tasks None slot = slot ≡ None
Calls tasks (Some task) slot = (index : ℕ) × (slot ≡ Some index) × (slice_get tasks index ≡ Some task)

-- each of the first n records has its slot, with the task that it names in this way
pub record AreFound (says : Body → Option ℕ) (rs : List Record) (n : ℕ) (tasks : List ℕ)
    (slots : List (Option ℕ)) : Type 0 where
  pub all : length slots ≡ n
  pub each : (i : ℕ) → i < n → (slot : Option ℕ) × (slice_get slots i ≡ Some slot)
      × Finds tasks (at says rs i) slot

-- the same in a table with a slot for each record, of which the first n are filled
pub record AreFoundUpTo (says : Body → Option ℕ) (rs : List Record) (n : ℕ) (tasks : List ℕ)
    (slots : List (Option ℕ)) : Type 0 where
  pub all : length slots ≡ length rs
  pub each : (i : ℕ) → i < n → (slot : Option ℕ) × (slice_get slots i ≡ Some slot)
      × Finds tasks (at says rs i) slot

-- each task that the record at the place names is in the list, and each region that it ends or joins
pub record IsKnownAt (tasks regions : List ℕ) (rs : List Record) (i : ℕ) : Type 0 where
  pub region : IfSome (at region_named rs i) (Contains regions)
  pub root : IfSome (at claim rs i) (λ c. Contains tasks c.root)
  pub first : IfSome (at subject rs i) (Contains tasks)
  pub second : IfSome (at object rs i) (Contains tasks)
