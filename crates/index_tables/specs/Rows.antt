-- Rows of ids in one array, with one row for each index.
use Rattle.std.specs.Prelude.{ℕ, ◌≡◌, ◌<◌, ◌≤◌, ◌+◌, List, length, slice_index, slice_range}

-- the view of the rows: where each begins and the one before it ends, and the ids in them
pub record RowsView : Type 0 where
  pub offsets : List ℕ
  pub ids : List ℕ

-- no row ends before it begins
abbrev pub AreRising : List ℕ → Type 0
AreRising offsets =
    (index : ℕ) → index + 1 < length offsets → slice_index offsets index ≤ slice_index offsets (index + 1)

-- each row is within the array
pub record AreWithin (offsets ids : List ℕ) : Type 0 where
  pub rising : AreRising offsets
  pub within : (index : ℕ) → index < length offsets → slice_index offsets index ≤ length ids

-- the row at an index
abbrev pub row : RowsView → ℕ → List ℕ
row rows index =
    slice_range rows.ids (slice_index rows.offsets index) (slice_index rows.offsets (index + 1))

-- the rows have these lengths
pub record AreOffsets (counts offsets : List ℕ) : Type 0 where
  pub all : length offsets ≡ length counts + 1
  pub next : (index : ℕ) → index < length counts
      → slice_index offsets (index + 1) ≡ slice_index offsets index + slice_index counts index
