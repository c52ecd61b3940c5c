use Rattle.std.proofs.Common.{◌≡◌, ◌≤◌, ◌*◌, ◌^◌, take, length}
use Rattle.credit_ledger.specs.Shares.{start_share}
use Rattle.credit_ledger.proofs.share.count_halves.Given as goal

abbrev pub invariant-loop-number : goal.invariant-loop-number
invariant-loop-number l = record {
  count : l.halves ≡ length (start_share (take l.number-index l.path));
  bound : l.halves ≤ l.number-index * 2 ^ 32;
}
