-- Orders of all records that keep what happens before what.
use Rattle.std.specs.Prelude.{ℕ, ◌≡◌, ◌<◌, List, [], length, take, ◌++◌, slice_index, Contains, ⊤}
use Rattle.std.specs.List.Sorted.{IsPermutation}
use Rattle.ompt_events.specs.declared.records.Record.{Record}
use Rattle.ompt_events.specs.Places.{places}
use Rattle.ompt_events.specs.HappensBefore.{HappensBefore}

-- a is in the order somewhere before b
pub record IsEarlier (order : List ℕ) (a b : ℕ) : Type 0 where
  pub first : ℕ
  pub second : ℕ
  pub apart : first < second
  pub within : second < length order
  pub a_stands : slice_index order first ≡ a
  pub b_stands : slice_index order second ≡ b

-- each record once, and what happens before a record earlier than it
pub record IsLinearization (rs : List Record) (order : List ℕ) : Type 0 where
  pub all_once : IsPermutation (places rs) order
  pub rising : (a b : ℕ) → HappensBefore rs a b → IsEarlier order a b

-- all that happens before the record is in the list already
abbrev pub IsDue : List Record → List ℕ → ℕ → Type 0
IsDue rs standing i = (a : ℕ) → HappensBefore rs a i → Contains standing a

-- the record may come next: it is one of those that may be taken, is not in the list, and all that happens
-- before it is
pub record IsReady (rs : List Record) (may : ℕ → Type 0) (standing : List ℕ) (i : ℕ) : Type 0 where
  pub within : i < length rs
  pub taken : may i
  pub missing : Contains standing i → ⊥
  pub due : IsDue rs standing i

-- of the records that may come next the first in file order
pub record IsFirstReady (rs : List Record) (may : ℕ → Type 0) (standing : List ℕ) (i : ℕ) : Type 0 where
  pub ready : IsReady rs may standing i
  pub first : (k : ℕ) → k < i → IsReady rs may standing k → ⊥

-- after those in the list, each record is the first that may come next
abbrev pub IsGreedyAfter : List Record → (ℕ → Type 0) → List ℕ → List ℕ → Type 0
IsGreedyAfter rs may standing order =
    (k : ℕ) → k < length order → IsFirstReady rs may (standing ++ take k order) (slice_index order k)

-- from the first place on, each record is the first in file order that may come next
abbrev pub IsGreedy : List Record → List ℕ → Type 0
IsGreedy rs order = IsGreedyAfter rs (λ _. ⊤) [] order

-- a list in which each record has all that happens before it earlier
abbrev pub IsGrounded : List Record → List ℕ → Type 0
IsGrounded rs order = (k : ℕ) → k < length order → IsDue rs (take k order) (slice_index order k)
