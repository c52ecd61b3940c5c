use Rattle.std.proofs.Common.{◌∙◌, sym, ap, subst}
use Rattle.credit_ledger.specs.TraceEntries.{HasRightEntries, IsLedgerOf}
use Rattle.teams.specs.Teams.{TeamsView}
use Rattle.wait_coverage.specs.Done.{DoneView, AreDone}
use Rattle.wait_coverage.proofs.HeldLemmas.{held_from}
use Rattle.wait_coverage.proofs.unfinished.Known.of_ledger.Goals as goal

pub returns-clause-credit : goal.returns-clause-credit
returns-clause-credit c = λ ledger right.
    let done = c.in_ok-known.known.done in
    let P : TeamsView → Type 0 = λ t. HasRightEntries t.run.records in
    let Q : TeamsView → Type 0 = λ t. IsLedgerOf t.run.records c.args.ledger.now in
    let teams = ap (λ (d : DoneView). d.teams) c.in_ok-known.ensures ∙ c.in_ok-done.ensures.teams in
    held_from done c.args.ledger.now c.done-done.ensures.is_done
    (subst AreDone (sym c.in_ok-known.ensures) (c.in_ok-done.ensures.done ledger))
    (subst P (sym teams) right) (subst Q (sym teams) ledger)
