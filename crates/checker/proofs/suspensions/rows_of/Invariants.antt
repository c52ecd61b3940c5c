use Rattle.std.proofs.Common.{◌≡◌, ◌≤◌, ◌*◌, ◌^◌}
use Rattle.std.specs.Prelude.{slice_index}
use Rattle.checker.proofs.SuspensionLemmas.{AreLaid}
use Rattle.checker.proofs.suspensions.rows_of.Given as goal

-- the rows of the tasks so far
abbrev pub invariant-loop-index : goal.invariant-loop-index
invariant-loop-index l = record {
  laid : AreLaid l.index l.lengths.items l.rows.items;
  last : slice_index l.rows.items l.index ≡ l.end;
  low : l.end ≤ l.index * 2 ^ 32;
}
