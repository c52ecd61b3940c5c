use Rattle.std.proofs.Common.{ℕ, ◌≡◌, ◌<◌, ◌+◌, length, take}
use Rattle.std.specs.Prelude.{slice_index, sum}
use Rattle.index_tables.proofs.rows.find_offsets.Given as goal

-- the rows of the tasks so far
abbrev pub invariant-loop-count : goal.invariant-loop-count
invariant-loop-count l = record {
  all : length l.offsets.items ≡ l.count-index + 1;
  next : (index : ℕ) → index < l.count-index
      → slice_index l.offsets.items (index + 1)
      ≡ slice_index l.offsets.items index + slice_index l.counts index;
  last : slice_index l.offsets.items l.count-index ≡ l.end;
  total : l.end ≡ sum (take l.count-index l.counts);
}
