use Rattle.std.proofs.Common.{◌≡◌, ◌++◌, ◌+◌, ◌≤◌, length}
use Rattle.std.specs.Prelude.{reverse}
use Rattle.std.specs.Vec.{vec_capacity}
use Rattle.callbacks.proofs.gathering.append.Given as goal

abbrev pub decreases-records : goal.decreases-records
decreases-records l = length l.more.items

abbrev pub invariant-records : goal.invariant-records
invariant-records l = record {
  items : l.records.items ++ reverse l.more.items ≡ l.initial.records.items ++ reverse l.initial.more.items;
  fits : length l.records.items + length l.more.items ≤ vec_capacity l.records;
  capacity : vec_capacity l.records ≡ vec_capacity l.initial.records;
}
