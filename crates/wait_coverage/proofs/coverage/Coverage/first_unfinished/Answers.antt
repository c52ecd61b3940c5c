use Rattle.std.proofs.Common.{◌∙◌, sym, subst}
use Rattle.teams.specs.Teams.{TeamsView}
use Rattle.credit_ledger.specs.TraceEntries.{IsLedgerOf}
use Rattle.wait_coverage.proofs.CoverageLemmas.{one_number_of, first_of_unfinished}
use Rattle.wait_coverage.proofs.coverage.Coverage.first_unfinished.Goals as goal

pub returns-then-branch-clause-first : goal.returns-then-branch-clause-first
returns-then-branch-clause-first c =
    λ ledger right. c.in_ok-is_end_held.ensures.held ledger right c.if-branch.true

pub returns-clause-first : goal.returns-clause-first
returns-clause-first c = λ ledger right end here.
    let P : TeamsView → Type 0 = λ t. IsLedgerOf t.run.records c.args.ledger.now in
    let known = c.in_ok-known.ensures in
    first_of_unfinished c.args.self.now.teams c.in_ok-known.known.done c.end.result end
    c.in_ok-unfinished_at.field-0
    (known.teams ∙ c.teams.ensures.value) c.done-done.ensures.is_done
    (known.done (subst P (sym c.teams.ensures.value) ledger))
    (one_number_of c.args.self.now c.args.index c.end.result end c.teams.ensures.is_coverage
    c.end.ensures.value here)
    c.in_ok-unfinished_at.ensures
