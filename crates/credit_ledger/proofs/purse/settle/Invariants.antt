use Rattle.std.proofs.Common.{◌≡◌, ◌≤◌, ◌<◌, take, Some, length}
use Rattle.std.specs.Prelude.{reverse}
use Rattle.credit_ledger.specs.Trees.{place, child, progress_at, IsTreeLinked, IsSettling}
use Rattle.credit_ledger.proofs.purse.settle.Given as goal

abbrev pub invariant-levels : goal.invariant-levels
invariant-levels l = record {
  linked : IsTreeLinked l.tree;
  place : place (child l.tree) (reverse (take l.depth l.runs)) ≡ Some l.index;
  settling : IsSettling l.shares (progress_at l.tree) (reverse (take l.depth l.runs));
  within : 0 < length l.tree.nodes.items;
  depth : l.depth ≤ length l.runs;
  links : l.tree.links ≡ l.initial.tree.links;
  nodes : length l.tree.nodes.items ≡ length l.initial.tree.nodes.items;
}

abbrev pub decreases-levels : goal.decreases-levels
decreases-levels l = l.depth
