-- The places of all records that show a cause.
use Rattle.std.specs.Prelude.{ℕ, ◌<◌, List, All, Contains, length}
use Rattle.std.specs.List.{AllPairs}
use Rattle.ompt_events.specs.declared.records.Record.{Record}
use Rattle.ompt_events.specs.declared.cause.Cause.{Cause}
use Rattle.ompt_events.specs.Causes.{HasCause, Shows}

-- these are the places below n of which the fact holds, in file order
pub record AreAllBelow (holds : ℕ → Type 0) (n : ℕ) (places : List ℕ) : Type 0 where
  pub rising : AllPairs (λ x y. x < y) places
  pub within : All (λ place. place < n) places
  pub hold : All holds places
  pub complete : (i : ℕ) → i < n → holds i → Contains places i

-- these are the places of which the fact holds, all in a list of n records, in file order
pub record AreAll (holds : ℕ → Type 0) (n : ℕ) (places : List ℕ) : Type 0 where
  pub rising : AllPairs (λ x y. x < y) places
  pub within : All (λ place. place < n) places
  pub hold : All holds places
  pub complete : (i : ℕ) → holds i → Contains places i

-- these are the places of the records that have the cause, in file order
abbrev pub AreAllWith : List Record → Cause → List ℕ → Type 0
AreAllWith rs cause places = AreAll (λ i. HasCause rs i cause) (length rs) places

-- these are the places of the records at which the trace shows the cause, in file order
abbrev pub AreAllShown : List Record → Cause → List ℕ → Type 0
AreAllShown rs cause places = AreAll (λ i. Shows rs i cause) (length rs) places
