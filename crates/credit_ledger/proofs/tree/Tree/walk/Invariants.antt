use Rattle.std.proofs.Common.{◌≡◌, ◌≤◌, take, Some, None, length}
use Rattle.std.specs.Prelude.{reverse}
use Rattle.credit_ledger.specs.Trees.{place, child, progress_at, time_above}
use Rattle.credit_ledger.proofs.tree.Tree.walk.Given as goal

abbrev pub invariant-runs : goal.invariant-runs
invariant-runs l = record {
  place : place (child l.self) (reverse (take l.depth l.runs)) ≡ Some l.index;
  none : time_above (progress_at l.self) (reverse (take l.depth l.runs)) ≡ None;
  depth : l.depth ≤ length l.runs;
}
