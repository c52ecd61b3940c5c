use Rattle.std.proofs.Common.{◌∙◌, sym, ap, subst}
use Rattle.credit_ledger.specs.TraceEntries.{HasRightEntries}
use Rattle.teams.specs.Teams.{TeamsView}
use Rattle.wait_coverage.specs.Done.{DoneView, AreDone}
use Rattle.wait_coverage.proofs.HeldLemmas.{held_from}
use Rattle.wait_coverage.proofs.unfinished.find_known.Goals as goal

pub returns-clause-credit : goal.returns-clause-credit
returns-clause-credit c = λ right entries ledger.
    let done = c.in_ok-known.known.done in
    let P : TeamsView → Type 0 = λ t. HasRightEntries t.run.records in
    let teams = ap (λ (d : DoneView). d.teams) c.in_ok-known.ensures ∙ c.in_ok-done.ensures.teams in
    held_from done entries c.done-done.ensures.is_done
    (subst AreDone (sym c.in_ok-known.ensures) c.in_ok-done.ensures.done)
    (subst P (sym teams) right) ledger
