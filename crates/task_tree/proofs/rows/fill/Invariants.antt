use Rattle.std.proofs.Common.{◌≡◌, length}
use Rattle.task_tree.specs.Rows.{AreFilled}
use Rattle.task_tree.proofs.rows.fill.Given as goal

-- the tasks so far stand in their rows
abbrev pub invariant-loop-index : goal.invariant-loop-index
invariant-loop-index l = record {
  all : length l.ids.items ≡ length l.initial.ids.items;
  filled : AreFilled l.index l.tasks l.links l.offsets l.ids.items;
}
