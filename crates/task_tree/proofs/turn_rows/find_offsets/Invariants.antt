use Rattle.std.proofs.Common.{ℕ, ◌≡◌, ◌≤◌, ◌+◌, Some, length, take}
use Rattle.std.specs.Prelude.{slice_get, sum}
use Rattle.task_tree.specs.TurnRows.{AreOffsetsRising}
use Rattle.task_tree.proofs.turn_rows.find_offsets.Given as goal

-- the rows of the tasks so far
abbrev pub invariant-loop-count : goal.invariant-loop-count
invariant-loop-count l = record {
  all : length l.offsets.items ≡ l.count-index + 1;
  rising : AreOffsetsRising l.offsets.items;
  last : (index offset : ℕ) → slice_get l.offsets.items index ≡ Some offset → offset ≤ l.end;
  total : l.end ≡ sum (take l.count-index l.counts) + l.count-index;
}
