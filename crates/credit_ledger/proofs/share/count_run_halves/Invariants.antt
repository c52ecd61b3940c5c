use Rattle.std.proofs.Common.{◌≡◌, take, length}
use Rattle.credit_ledger.specs.Shares.{start_share}
use Rattle.credit_ledger.proofs.share.count_run_halves.Given as goal

abbrev pub invariant-loop-run : goal.invariant-loop-run
invariant-loop-run l = l.halves ≡ length (start_share (take l.run-index l.runs))
