-- Rows by index, made only up to the greatest index at which one is written.
use Rattle.std.specs.Prelude.{ℕ, ◌≡◌, ◌≢◌, ◌++◌, ◌∷◌, List, [], Option, Some, None, slice_get}
use Rattle.std.specs.Global.{Vec}

-- what the row has; nothing where there is none
abbrev pub row_items : {X : Type 0} → Option (Vec X) → List X
row_items None = []
row_items (Some row) = row.items

-- what is in the row with this index; nothing past the last row
abbrev pub row_at : {X : Type 0} → List (Vec X) → ℕ → List X
row_at rows index = row_items (slice_get rows index)

-- at each index the row is what it was
abbrev pub AreSameRows : {X : Type 0} → List (Vec X) → List (Vec X) → Type 0
AreSameRows before after = (index : ℕ) → row_at after index ≡ row_at before index

-- the place is added at the end of the row with this index, and the other rows have what they had
pub record IsPlaceAdded (before after : List (Vec ℕ)) (index place : ℕ) : Type 0 where
  pub here : row_at after index ≡ row_at before index ++ place ∷ []
  pub others : (other : ℕ) → other ≢ index → row_at after other ≡ row_at before other
