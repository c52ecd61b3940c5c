use Rattle.std.proofs.Common.{◌≡◌, ◌-◌, ◌≤◌, Some}
use Rattle.credit_ledger.specs.Trees.{child_since, since_all}
use Rattle.credit_ledger.proofs.tree.Tree.since_all.Given as goal

abbrev pub invariant-numbers : goal.invariant-numbers
invariant-numbers l = record {
  latest : since_all (child_since l.self l.index) l.start l.first (l.number - l.first) ≡ Some l.latest;
  low : l.first ≤ l.number;
  high : l.number ≤ l.end;
}
