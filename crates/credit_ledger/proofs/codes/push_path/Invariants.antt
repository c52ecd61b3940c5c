use Rattle.std.proofs.Common.{◌≡◌, ◌≤◌, ◌*◌, ◌^◌, ◌++◌, take, length}
use Rattle.credit_ledger.specs.Shares.{start_share}
use Rattle.credit_ledger.proofs.codes.push_path.Given as goal

abbrev pub invariant-numbers : goal.invariant-numbers
invariant-numbers l = record {
  runs : l.runs.items ≡ l.initial.runs.items ++ take l.number-index l.path;
  small : length (start_share (take l.number-index l.path)) ≤ l.number-index * 2 ^ 32;
}
