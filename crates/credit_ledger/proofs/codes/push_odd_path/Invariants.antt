use Rattle.std.proofs.Common.{◌≡◌, ◌≤◌, ◌+◌, ◌*◌, ◌^◌, ◌++◌, take, length, map}
use Rattle.credit_ledger.specs.Shares.{start_share}
use Rattle.credit_ledger.proofs.codes.push_odd_path.Given as goal

abbrev pub invariant-numbers : goal.invariant-numbers
invariant-numbers l = record {
  runs : l.runs.items ≡ l.initial.runs.items ++ map (λ n. 2 * n + 1) (take l.number-index l.path);
  small : length (start_share (map (λ n. 2 * n + 1) (take l.number-index l.path))) ≤ l.number-index * 2 ^ 34;
}
