use Rattle.std.specs.Prelude.{◌≡◌, count_by, is_some, take}
use Rattle.ompt_events.specs.declared.records.Record.{Record}
use Rattle.ompt_events.specs.Records.{finish}
use Rattle.credit_ledger.proofs.makers.entry_count.Given as goal

-- the entries of the records so far are counted
abbrev pub invariant-loop-at : goal.invariant-loop-at
invariant-loop-at l = l.count ≡ count_by (λ (r : Record). is_some (finish r.body)) (take l.at l.run.records)
