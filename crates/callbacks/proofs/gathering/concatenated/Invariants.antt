use Rattle.std.proofs.Common.{◌≡◌, ◌++◌, ◌+◌, ◌≤◌, length}
use Rattle.std.specs.Prelude.{reverse}
use Rattle.std.specs.Vec.{vec_capacity}
use Rattle.callbacks.specs.Gathered.{gathered}
use Rattle.callbacks.proofs.gathering.concatenated.Given as goal

abbrev pub decreases-buffers : goal.decreases-buffers
decreases-buffers l = length l.buffers.items

abbrev pub invariant-buffers : goal.invariant-buffers
invariant-buffers l = record {
  items : l.records.items ++ gathered (reverse l.buffers.items) ≡ gathered (reverse l.initial.buffers.items);
  fits : length l.records.items + length (gathered (reverse l.buffers.items)) ≤ vec_capacity l.records;
}
