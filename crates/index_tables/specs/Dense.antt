-- Ids that lie close together: the index of each is found by its distance from the least.
use Rattle.std.specs.Prelude.{ℕ, ◌≡◌, ◌<◌, ◌≤◌, ◌+◌, ◌*◌, ◌^◌, List, Option, Some, length, slice_get}
use Rattle.std.specs.Prelude.{slice_index}
use Rattle.index_tables.specs.declared.dense.Indices.{Indices}
use Rattle.index_tables.specs.declared.dense.Indices.TheVariants.{Distances, Slots}

-- each id is greater by 1 than the one before it
abbrev pub AreConsecutive : List ℕ → Type 0
AreConsecutive ids = (index : ℕ) → index < length ids → slice_index ids index ≡ slice_index ids 0 + index

-- each id is at one of so many places from the least on
abbrev pub AreBetween : List ℕ → ℕ → ℕ → Type 0
AreBetween ids least places = (index : ℕ) → index < length ids
    → (least ≤ slice_index ids index) × (slice_index ids index < least + places)

-- at most 4 places for each id, and few of both
pub record AreClose (ids : List ℕ) (least places : ℕ) : Type 0 where
  pub between : AreBetween ids least places
  pub dense : places ≤ 4 * length ids
  pub few_places : places < 2 ^ 31
  pub few_ids : length ids < 2 ^ 31

-- no id is below the least; the slot at each distance has the index of the id there, if there is one
pub record ArePlaced (ids : List ℕ) (least : ℕ) (slots : List (Option ℕ)) : Type 0 where
  pub low : (index id : ℕ) → slice_get ids index ≡ Some id → least ≤ id
  pub found : (distance index : ℕ) → slice_get slots distance ≡ Some (Some index)
      → slice_get ids index ≡ Some (least + distance)
  pub placed : (distance index : ℕ) → slice_get ids index ≡ Some (least + distance)
      → slice_get slots distance ≡ Some (Some index)

-- the index of each id is its distance from the first, or is in the slot at its distance from the least
abbrev pub AreIndexed : List ℕ → Indices → Type 0
AreIndexed ids Distances = AreConsecutive ids
AreIndexed ids (Slots placed) = ArePlaced ids placed.least placed.slots.items
