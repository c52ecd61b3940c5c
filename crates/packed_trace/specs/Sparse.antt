-- Items of few records, by the places of these records.
use Rattle.std.specs.Prelude.{ℕ, ◌≡◌, ◌<◌, ◌++◌, ◌∷◌, [], List, length, Option, Some, None, slice_get}
use Rattle.ompt_events.specs.declared.records.Record.{Record}
use Rattle.ompt_events.specs.declared.records.Body.{Body}
use Rattle.ompt_events.specs.Places.{at}

-- the places are those of the records that say something in this way, in their order, and the items are what
-- they say
pub record AreSparse {X : Type 0} (says : Body → Option X) (rs : List Record) (places : List ℕ)
    (items : List X) : Type 0 where
  pub all : length places ≡ length items
  pub each : (i : ℕ) (x : X) → at says rs i ≡ Some x
      → (k : ℕ) × (slice_get places k ≡ Some i) × (slice_get items k ≡ Some x)
  pub only : (k i : ℕ) (x : X) → slice_get places k ≡ Some i → slice_get items k ≡ Some x
      → at says rs i ≡ Some x
  pub within : (k i : ℕ) → slice_get places k ≡ Some i → i < length rs
  pub rising : (a b place later : ℕ) → a < b → slice_get places a ≡ Some place
      → slice_get places b ≡ Some later → place < later

-- the lists have one item more, of the record at the place, if it says something
abbrev pub AddsItem : {X : Type 0} → List ℕ → List X → List ℕ → List X → ℕ → Option X → Type 0
AddsItem places items new_places new_items place None = (new_places ≡ places) × (new_items ≡ items)
AddsItem places items new_places new_items place (Some x) =
    (new_places ≡ places ++ place ∷ []) × (new_items ≡ items ++ x ∷ [])
