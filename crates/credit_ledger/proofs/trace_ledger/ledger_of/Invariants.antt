use Rattle.credit_ledger.specs.TraceEntries.{HasRightEntries}
use Rattle.credit_ledger.specs.TraceLedger.{AreEntered}
use Rattle.credit_ledger.proofs.trace_ledger.ledger_of.Given as goal

-- the ledger has the entries below the index
abbrev pub invariant-loop-index : goal.invariant-loop-index
invariant-loop-index l = HasRightEntries l.run.records → AreEntered l.run.records l.index l.ledger
