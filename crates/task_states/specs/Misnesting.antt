-- Which roots begin inside another one, of a region that the current task of their thread has not begun.
use Rattle.std.specs.Prelude.{ℕ, ◌≡◌, ◌<◌, ◌+◌, ◌*◌, ◌/◌, ◌%◌, ◌↔◌, ◌⊎◌, List, length, get_or, Some, true}
use Rattle.std.specs.Prelude.{nat_eq, is_some, IsSomeAnd, slice_get}
use Rattle.std.specs.Int.{bit_at}
use Rattle.indexmap.specs.IndexMap.{IndexMap, get, hasher_of as map_hasher}
use Rattle.index_tables.specs.declared.seeded.Seeded.{Seeded}
use Rattle.ompt_events.specs.declared.records.Record.{Record}
use Rattle.ompt_events.specs.declared.records.Membership.{Membership}
use Rattle.ompt_events.specs.Records.{forked, joined, begun_initial}
use Rattle.ompt_events.specs.Places.{at, thread_at}
use Rattle.ompt_events.specs.Threads.{Walk}
use Rattle.task_tree.specs.Runs.{RunView}
use Rattle.task_states.specs.declared.begun.Begun.{Begun}

-- ---- sets of threads

-- the set of the task at the index has the thread: each set has four words of 64 bits
abbrev pub HasThread : List ℕ → ℕ → ℕ → Type 0
HasThread words index thread = bit_at (get_or words (index * 4 + thread / 64) 0) (thread % 64) ≡ 1

-- the thread is added to the set of the task at the index, and nothing else changes
pub record IsThreadAdded (before after : List ℕ) (index thread : ℕ) : Type 0 where
  pub all : length after ≡ length before
  pub each : (other one : ℕ) → one < 256
      → HasThread after other one ↔ (((other ≡ index) × (one ≡ thread)) ⊎ HasThread before other one)

-- ---- the regions that have begun

-- one of the first n records, at the place, begins the parallel region
abbrev pub IsBegunAt : List Record → ℕ → ℕ → ℕ → Type 0
IsBegunAt rs n parallel place = (place < n) × ((task : ℕ) × (at forked rs place ≡ Some (task, parallel)))

-- by parallel region the place of the one of the first n records that begins it
abbrev pub ArePlaces : List Record → ℕ → IndexMap ℕ ℕ Seeded → Type 0
ArePlaces rs n places =
    (parallel place : ℕ) → (get nat_eq places parallel ≡ Some place) ↔ IsBegunAt rs n parallel place

-- the task at the index begins a parallel region by one of the first n records, which the thread made
pub record IsForker (run : RunView) (n index thread : ℕ) : Type 0 where
  pub place : ℕ
  pub before : place < n
  pub runs : thread_at run.records place ≡ Some thread
  pub task : ℕ
  pub parallel : ℕ
  pub begins : at forked run.records place ≡ Some (task, parallel)
  pub indexed : slice_get run.family.tasks index ≡ Some task

-- by index of each task the threads on which it begins a region by the first n records
pub record AreForkers (run : RunView) (n : ℕ) (words : List ℕ) : Type 0 where
  pub all : length words ≡ length run.family.tasks * 4
  pub each : (index thread : ℕ) → index < length run.family.tasks → thread < 256
      → HasThread words index thread ↔ IsForker run n index thread

-- both, and the table of regions has the hashers that the run's family has for one
pub record HaveBegun (run : RunView) (n : ℕ) (begun : Begun) : Type 0 where
  pub places : ArePlaces run.records n begun.places
  pub seeded : map_hasher begun.places ≡ run.family.region_hashers
  pub threads : AreForkers run n begun.threads.words.items

-- ---- what the current task has begun

-- an earlier record of the same thread begins the parallel region, by the task at the index
pub record HasForked (run : RunView) (i index parallel : ℕ) : Type 0 where
  pub place : ℕ
  pub before : place < i
  pub same_thread : thread_at run.records place ≡ thread_at run.records i
  pub task : ℕ
  pub begins : at forked run.records place ≡ Some (task, parallel)
  pub indexed : slice_get run.family.tasks index ≡ Some task

-- the same of any parallel region
abbrev pub HasForkedOne : RunView → ℕ → ℕ → Type 0
HasForkedOne run i index = (parallel : ℕ) × HasForked run i index parallel

-- ---- a root that begins

-- a member of a team begins whose region the current task has not begun
abbrev pub JoinsOther : RunView → Walk → ℕ → Type 0
JoinsOther run walk i =
    IsSomeAnd (at joined run.records i)
    (λ (m : Membership). IsSomeAnd walk.current (λ index. HasForked run i index m.parallel) → ⊥)

-- an initial task begins, and the current task has begun no region
abbrev pub LeadsOther : RunView → Walk → ℕ → Type 0
LeadsOther run walk i =
    (is_some (at begun_initial run.records i) ≡ true) × (IsSomeAnd walk.current (HasForkedOne run i) → ⊥)

-- one of them does, inside an open root
abbrev pub BeginsMisnested : RunView → Walk → ℕ → Type 0
BeginsMisnested run walk i =
    (is_some (slice_get walk.roots 0) ≡ true) × (JoinsOther run walk i ⊎ LeadsOther run walk i)
