-- The records while they are put into an order. A record stands when it is placed in the order.
use Rattle.std.specs.Prelude.{ℕ, ◌≡◌, ◌≢◌, ◌<◌, ◌≤◌, ◌+◌, ◌==◌, ◌⊎◌, ◌++◌, ⊤, List, Contains, length, take}
use Rattle.std.specs.Prelude.{Bool, true, Option, Some, option_and_then, option_map, slice_get, slice_index}
use Rattle.std.specs.Option.{option_or}
use Rattle.std.specs.List.{position}
use Rattle.std.specs.List.Sorted.{IsPermutation}
use Rattle.ompt_events.specs.declared.records.Record.{Record}
use Rattle.ompt_events.specs.Records.{begun_turn}
use Rattle.ompt_events.specs.Places.{at, thread_at, seen_at, places}
use Rattle.ompt_events.specs.HappensBefore.{IsFinishing, IsStep, HappensBefore}
use Rattle.ompt_events.specs.Linearization.{IsReady, IsGreedyAfter}
use Rattle.ompt_events.specs.Causes.{entries_in}
use Rattle.task_tree.specs.Family.{FamilyView, IsFamilyOf}
use Rattle.checker.specs.Lists.{AreLists, IsNextWith, LeadsOn}
use Rattle.checker.specs.Schedule.{awaited, Awaits}
use Rattle.checker.specs.Suspensions.{AreSuspensions}
use Rattle.checker.specs.declared.suspensions.Suspensions.{Suspensions}
use Rattle.checker.specs.declared.waiting.Waiting.{Waiting}

-- the record is placed already
abbrev pub Stands : List Bool → ℕ → Type 0
Stands placed i = slice_get placed i ≡ Some true

-- if a record is placed, so are all that happen before it
abbrev pub IsPlacedPrefix : List Record → List Bool → Type 0
IsPlacedPrefix rs placed = (a b : ℕ) → HappensBefore rs a b → Stands placed b → Stands placed a

-- the record may be placed next: it isn't placed yet, and each step that leads to it starts at one that is
pub record MayStandNext (rs : List Record) (placed : List Bool) (i : ℕ) : Type 0 where
  pub within : i < length rs
  pub missing : Stands placed i → ⊥
  pub steps : (a : ℕ) → IsStep rs a i → Stands placed a

-- of each thread the first record that isn't placed; the number of records if all are
pub record AreHeads (rs : List Record) (placed : List Bool) (heads : List ℕ) : Type 0 where
  pub all : (i thread : ℕ) → thread_at rs i ≡ Some thread → thread < length heads
  pub below : (thread i : ℕ) → thread_at rs i ≡ Some thread → i < slice_index heads thread → Stands placed i
  pub head : (thread : ℕ) → thread < length heads → slice_index heads thread < length rs
      → thread_at rs (slice_index heads thread) ≡ Some thread
  pub missing : (thread : ℕ) → thread < length heads → Stands placed (slice_index heads thread) → ⊥

-- each record of the list may be placed next once those before it in the list are placed
abbrev pub AreInTurn : List Record → List ℕ → Type 0
AreInTurn rs order =
    (k : ℕ) → k < length order → IsReady rs (λ _. ⊤) (take k order) (slice_index order k)

-- the order begins with these records, and then takes the first record in file order that may be placed
-- next, until none is left
pub record IsGreedyBehind (rs : List Record) (base order : List ℕ) : Type 0 where
  pub more : List ℕ
  pub parts : order ≡ base ++ more
  pub greedy : IsGreedyAfter rs (λ _. ⊤) base more

-- just the records of the order are placed, of each thread up to its head, and the links lead from each
-- record to the next one of its thread
pub record ArePlaced (rs : List Record) (placed : List Bool) (heads links order : List ℕ) : Type 0 where
  pub all : length placed ≡ length rs
  pub to_order : (i : ℕ) → Stands placed i → Contains order i
  pub from_order : (i : ℕ) → Contains order i → Stands placed i
  pub in_turn : AreInTurn rs order
  pub are_heads : AreHeads rs placed heads
  pub above : (thread i : ℕ) → thread_at rs i ≡ Some thread → Stands placed i → i < slice_index heads thread
  pub rising : LeadsOn (length rs) links
  pub next : (i thread : ℕ) → i < length rs → thread_at rs i ≡ Some thread
      → IsNextWith (thread_at rs) (length rs) thread (i + 1) (slice_index links i)
  -- the records that are left to place
  pub left : List ℕ
  pub permutation : IsPermutation (places rs) (order ++ left)

-- just the records of the order are placed, which is greedy behind these records, and none may be placed
-- next
pub record IsMerged (rs : List Record) (base order : List ℕ) (placed : List Bool) : Type 0 where
  pub heads : List ℕ
  pub links : List ℕ
  pub standing : ArePlaced rs placed heads links order
  pub behind : IsGreedyBehind rs base order
  pub ended : (i : ℕ) → MayStandNext rs placed i → ⊥

-- there is such a record, and it isn't placed
pub record IsUnplaced (placed : List Bool) (i : ℕ) : Type 0 where
  pub within : i < length placed
  pub missing : Stands placed i → ⊥

-- the ledger length that is reached: each entry below it is made by a record that is placed; and if a
-- record names a greater length, the record that makes the next entry isn't placed
pub record IsLow (rs : List Record) (placed : List Bool) (low : ℕ) : Type 0 where
  pub below : (i : ℕ) → IsFinishing rs i → seen_at rs i < low → Stands placed i
  pub next : (i : ℕ) → low < seen_at rs i → (m : ℕ) × IsFinishing rs m × (seen_at rs m ≡ low)
      × (Stands placed m → ⊥)

-- what is tested for the head of a thread
pub record IsReadyHead (rs : List Record) (placed : List Bool) (low i : ℕ) : Type 0 where
  pub within : i < length rs
  pub is_let : (c : ℕ) → Awaits rs i c → Stands placed c
  pub is_entered : seen_at rs i ≤ low

-- what is known while records are put in order: their tasks, where these are suspended, which records are
-- placed, the head of each thread, and the ledger length that is reached
pub record IsFront (rs : List Record) (family : FamilyView) (known : Suspensions) (placed : List Bool)
    (heads : List ℕ) (low : ℕ) : Type 0 where
  pub family_of : IsFamilyOf rs family
  pub suspended : AreSuspensions rs family.tasks known
  pub closed : IsPlacedPrefix rs placed
  pub are_heads : AreHeads rs placed heads
  pub is_low : IsLow rs placed low

-- the places are those that may be placed next, and perhaps some that are placed already
pub record AreOffered (rs : List Record) (placed : List Bool) (ready : List ℕ) : Type 0 where
  pub all : (i : ℕ) → MayStandNext rs placed i → Contains ready i
  pub only : (i : ℕ) → Contains ready i → Stands placed i ⊎ MayStandNext rs placed i

-- some that may be placed next were added
pub record AreMore (rs : List Record) (placed : List Bool) (old new : List ℕ) : Type 0 where
  pub kept : (i : ℕ) → Contains old i → Contains new i
  pub only : (i : ℕ) → Contains new i → Contains old i ⊎ MayStandNext rs placed i

-- the least that may be placed next was taken out, perhaps with some that are placed already
pub record IsPlaceTaken (rs : List Record) (placed : List Bool) (place : ℕ) (ready : List ℕ) : Type 0 where
  pub next : MayStandNext rs placed place
  pub first : (i : ℕ) → i < place → MayStandNext rs placed i → ⊥
  pub kept : (i : ℕ) → i ≢ place → MayStandNext rs placed i → Contains ready i
  pub only : (i : ℕ) → Contains ready i → Stands placed i ⊎ MayStandNext rs placed i

-- the index of the task whose creation each record awaits
abbrev pub created_index : List ℕ → List Record → ℕ → Option ℕ
created_index tasks rs i = option_and_then (λ task. position (λ t. t == task) tasks) (at awaited rs i)

-- after the indices of all tasks, the slot of the turn that a task begins at each record
abbrev pub turn_slot : List ℕ → List Record → List ℕ → ℕ → Option ℕ
turn_slot tasks rs rows i =
    option_and_then
    (λ (b : ℕ × ℕ). option_map (λ index. length tasks + (slice_index rows index + b.1))
    (position (λ t. t == b.0) tasks))
    (at begun_turn rs i)

-- the key of what each record awaits
abbrev pub key_of : List ℕ → List Record → List ℕ → ℕ → Option ℕ
key_of tasks rs rows i = option_or (created_index tasks rs i) (turn_slot tasks rs rows i)

-- the ledger length that each record names
abbrev pub named_length : List Record → ℕ → Option ℕ
named_length rs i = option_map (λ (r : Record). r.seen) (slice_get rs i)

-- the lists of the records that await each record, and of those that name each ledger length
pub record AreWaiting (rs : List Record) (tasks : List ℕ) (known : Suspensions)
    (waiting : Waiting) : Type 0 where
  pub awaiting : AreLists (key_of tasks rs known.rows.items) (length rs) 0 waiting.by_key.firsts.items
      waiting.by_key.nexts.items
  pub naming : AreLists (named_length rs) (length rs) 0 waiting.by_length.firsts.items
      waiting.by_length.nexts.items
  pub keys_rise : LeadsOn (length rs) waiting.by_key.nexts.items
  pub lengths_rise : LeadsOn (length rs) waiting.by_length.nexts.items
  pub keys : length waiting.by_key.firsts.items ≡ length tasks + length known.places.items
  pub lengths : length waiting.by_length.firsts.items ≡ entries_in rs + 1
