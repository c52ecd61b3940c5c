use Rattle.std.proofs.Common.{◌≡◌, take}
use Rattle.credit_ledger.proofs.share.runs_of.Given as goal

abbrev pub invariant-loop-number : goal.invariant-loop-number
invariant-loop-number l = l.runs.items ≡ take l.number-index l.path
