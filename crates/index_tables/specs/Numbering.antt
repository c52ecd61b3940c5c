-- A list of ids, each once, with the index of each.
use Rattle.std.specs.Prelude.{ℕ, ◌≡◌, ◌<◌, List, Some, slice_get}
use Rattle.std.specs.declared.hash.FoldHasher.{FoldHasher}
use Rattle.indexmap.specs.IndexSet.{IndexSet, hasher_of as set_hasher}
use Rattle.index_tables.specs.Dense.{AreIndexed}
use Rattle.index_tables.specs.Seeded.{hasher_of}
use Rattle.index_tables.specs.declared.numbering.Table.{Table}
use Rattle.index_tables.specs.declared.numbering.Table.TheVariants.{Close, Hashed}

-- no id is at two indices
abbrev pub AreApart : List ℕ → Type 0
AreApart ids = (a b id : ℕ) → slice_get ids a ≡ Some id → slice_get ids b ≡ Some id → a ≡ b

abbrev pub ids_of : Table → List ℕ
ids_of (Close close) = close.ids.items
ids_of (Hashed ids) = ids.keys

-- the set's hashers have the seed of these ids
abbrev pub IsSeededBy : IndexSet ℕ FoldHasher → List ℕ → Type 0
IsSeededBy known ids = set_hasher known ≡ hasher_of ids

-- the indices are those of the ids, or the table has each id once, and the seed of its own ids
abbrev pub HasIndices : Table → Type 0
HasIndices (Close close) = AreIndexed close.ids.items close.indices
HasIndices (Hashed ids) = AreApart ids.keys × IsSeededBy ids ids.keys

-- the id at the index is at an earlier one too
abbrev pub IsAgain : List ℕ → ℕ → Type 0
IsAgain ids index =
    (earlier id : ℕ) × (earlier < index) × (slice_get ids earlier ≡ Some id) × (slice_get ids index ≡ Some id)

-- the first such index
pub record IsFirstAgain (ids : List ℕ) (index : ℕ) : Type 0 where
  pub again : IsAgain ids index
  pub first : (k : ℕ) → k < index → IsAgain ids k → ⊥
