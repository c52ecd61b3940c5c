use Rattle.std.proofs.Common.{◌≡◌, length}
use Rattle.credit_ledger.specs.TraceEntries.{IsLedgerOf}
use Rattle.wait_coverage.specs.Lengths.{AreLengthsBelow}
use Rattle.wait_coverage.proofs.lengths.find_entered.Given as goal

-- the lengths by the entries so far are known
abbrev pub invariant-loop-index : goal.invariant-loop-index
invariant-loop-index l = record {
  all : length l.table.items ≡ length l.run.family.tasks;
  lengths : IsLedgerOf l.run.records l.ledger
      → AreLengthsBelow l.run.records l.index l.run.family.tasks l.table.items;
}
