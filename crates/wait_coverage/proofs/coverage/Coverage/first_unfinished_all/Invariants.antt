use Rattle.credit_ledger.specs.TraceEntries.{IsLedgerOf, HasRightEntries}
use Rattle.wait_coverage.specs.Coverage.{AreFirstUnfinished}
use Rattle.wait_coverage.proofs.coverage.Coverage.first_unfinished_all.Given as goal

-- the answers so far
abbrev pub invariant-loop-asked : goal.invariant-loop-asked
invariant-loop-asked l =
    IsLedgerOf l.self.teams.run.records l.ledger → HasRightEntries l.self.teams.run.records
    → AreFirstUnfinished l.self l.of l.asked l.found.items
