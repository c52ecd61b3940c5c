use Rattle.credit_ledger.proofs.ThereLemmas.{ledger_there}
use Rattle.wait_coverage.specs.Done.{records_of}
use Rattle.wait_coverage.proofs.HeldLemmas.{held_children_done, own_children_done}
use Rattle.wait_coverage.proofs.unfinished.find_unfinished.Goals as goal

pub returns-clause-first : goal.returns-clause-first
returns-clause-first c =
    λ are.
    c.in_ok-unfinished_at.ensures
    (own_children_done c.args.known.now.done c.done-done.ensures.is_done are)

pub returns-clause-first_by_credit : goal.returns-clause-first_by_credit
returns-clause-first_by_credit c = λ right credit.
    let done = c.args.known.now.done in
    let is = c.done-done.ensures.is_done in
    let ledger = ledger_there (records_of done) is.teams.run.trace right in
    c.in_ok-unfinished_at.ensures
    (held_children_done done ledger.0 is right ledger.1 (credit ledger.0 ledger.1))
