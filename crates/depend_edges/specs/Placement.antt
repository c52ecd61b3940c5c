-- Which creations and lists of dependences belong together.
use Rattle.std.specs.Prelude.{ℕ, ◌≡◌, ◌≢◌, ◌<◌, ◌↔◌, ◌⊎◌, List, length, Bool, true, false, Option, Some}
use Rattle.std.specs.Prelude.{slice_get, is_some}
use Rattle.ompt_events.specs.declared.records.Record.{Record}
use Rattle.ompt_events.specs.declared.deps.Dep.{Dep}
use Rattle.ompt_events.specs.Records.{created_with_deps, dependences}
use Rattle.ompt_events.specs.Places.{at, thread_at}
use Rattle.ompt_events.specs.Causes.{AreFollowed}

-- of the first n records the one at a is the last of the thread
pub record IsLastOfThread (rs : List Record) (n thread a : ℕ) : Type 0 where
  pub before : a < n
  pub runs : thread_at rs a ≡ Some thread
  pub last : (k : ℕ) → a < k → k < n → thread_at rs k ≢ Some thread

-- by thread the place of the last of its records among the first n
pub record AreLastOfThreads (rs : List Record) (n : ℕ) (last : List (Option ℕ)) : Type 0 where
  pub all : length last ≡ 256
  pub each : (thread a : ℕ) → thread < 256
      → (slice_get last thread ≡ Some (Some a)) ↔ IsLastOfThread rs n thread a

-- the one record creates a task with dependences, and the other lists those of that task
abbrev pub BelongTogether : List Record → ℕ → ℕ → Type 0
BelongTogether rs create list =
    (task : ℕ) × (items : List Dep) × (at created_with_deps rs create ≡ Some task)
    × (at dependences rs list ≡ Some (task, items))

-- the record is marked
abbrev pub IsListMarked : List Bool → ℕ → Type 0
IsListMarked marks i = slice_get marks i ≡ Some true

-- marked are the creations and their lists, for each list among the first n records
pub record AreListsMarked (rs : List Record) (n : ℕ) (marks : List Bool) : Type 0 where
  pub all : length marks ≡ length rs
  pub each : (a b : ℕ) → b < n → AreFollowed rs a b → IsListMarked marks a × IsListMarked marks b
  pub only : (i : ℕ) → IsListMarked marks i → ((a : ℕ) × AreFollowed rs a i) ⊎ ((b : ℕ) × AreFollowed rs i b)

-- the record creates a task with dependences, or lists them
abbrev pub HasDependences : List Record → ℕ → Type 0
HasDependences rs i = (is_some (at created_with_deps rs i) ≡ true) ⊎ (is_some (at dependences rs i) ≡ true)

-- the record at the place creates no task with dependences, and lists none
pub record HasNoneAt (rs : List Record) (i : ℕ) : Type 0 where
  pub creates : is_some (at created_with_deps rs i) ≡ false
  pub lists : is_some (at dependences rs i) ≡ false
