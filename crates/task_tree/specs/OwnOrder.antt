-- An order of records as the list of their places, and the steps in which the tasks' own order is made.
use Rattle.std.specs.Prelude.{ℕ, ◌≡◌, ◌<◌, ⊤, List, Some, length, slice_get}
use Rattle.std.specs.List.{range_with_len}
use Rattle.task_tree.specs.declared.own_order.Order.{Order}
use Rattle.task_tree.specs.declared.own_order.Order.TheVariants.{InFile, Arranged}

-- the second list has at each place the number at which the first one has the place
pub record AreInverse (places numbers : List ℕ) : Type 0 where
  pub all : length numbers ≡ length places
  pub there : (place number : ℕ) → slice_get numbers place ≡ Some number
      → slice_get places number ≡ Some place
  pub back : (place number : ℕ) → slice_get places number ≡ Some place → slice_get numbers place ≡ Some number

-- the places, the earliest in the tasks' own order first
abbrev pub order_places : Order → List ℕ
order_places (InFile records) = range_with_len 0 records
order_places (Arranged places numbers) = places.items

-- the two lists of an arranged order are inverse
abbrev pub IsOrder : Order → Type 0
IsOrder (InFile records) = ⊤
IsOrder (Arranged places numbers) = AreInverse places.items numbers.items

-- each of the first n places is in the list once, and no other is
pub record AreAllPlaces (places : List ℕ) (n : ℕ) : Type 0 where
  pub all : length places ≡ n
  pub below : (number place : ℕ) → slice_get places number ≡ Some place → place < n
  pub each : (place : ℕ) → place < n → (number : ℕ) × (slice_get places number ≡ Some place)
  pub apart : (number other place : ℕ) → slice_get places number ≡ Some place
      → slice_get places other ≡ Some place → number ≡ other

-- ---- the steps

-- the places are below n, and none is there twice
pub record AreApartBelow (ordered : List ℕ) (n : ℕ) : Type 0 where
  pub below : (number place : ℕ) → slice_get ordered number ≡ Some place → place < n
  pub apart : (number other place : ℕ) → slice_get ordered number ≡ Some place
      → slice_get ordered other ≡ Some place → number ≡ other

-- at each of the first n places in order, its number
pub record AreOrderNumbers (ordered : List ℕ) (n : ℕ) (numbers : List ℕ) : Type 0 where
  pub all : length numbers ≡ length ordered
  pub each : (number place : ℕ) → number < n → slice_get ordered number ≡ Some place
      → slice_get numbers place ≡ Some number
