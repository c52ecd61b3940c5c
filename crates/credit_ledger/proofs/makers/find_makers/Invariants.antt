use Rattle.credit_ledger.specs.TraceMakers.{AreEntryRecords}
use Rattle.credit_ledger.proofs.makers.find_makers.Given as goal

-- the table has the records so far that make entries
abbrev pub invariant-loop-at : goal.invariant-loop-at
invariant-loop-at l = AreEntryRecords l.run.records l.at l.makers.items
