use Rattle.std.proofs.Common.{◌∙◌, get_or, sym, subst}
use Rattle.std.proofs.lemmas.Option.{slice_get-get_or}
use Rattle.teams.specs.Teams.{TeamsView}
use Rattle.credit_ledger.specs.TraceEntries.{IsLedgerOf}
use Rattle.wait_coverage.proofs.CoverageLemmas.{none_asked, one_number_of, one_more, first_of_unfinished}
use Rattle.wait_coverage.proofs.coverage.Coverage.first_unfinished_all.Goals as goal

pub loop-asked-init : goal.loop-asked-init
loop-asked-init c =
    λ ledger right.
    none_asked c.args.self.now c.args.of.now c.in_ok-found.found.items c.in_ok-found.ensures.items

pub loop-asked-preserved : goal.loop-asked-preserved
loop-asked-preserved c = λ ledger right.
    let coverage = c.args.self.now in
    let index = get_or c.args.of.now c.loop-asked.asked 0 in
    let P : TeamsView → Type 0 = λ t. IsLedgerOf t.run.records c.args.ledger.now in
    let known = c.in_ok-known.ensures in
    rw c.in_ok-push.ensures.items (one_more coverage c.args.of.now c.loop-asked.asked index
    c.in_ok-unfinished_at.field-0 c.loop-asked.found.items
    (slice_get-get_or c.args.of.now c.loop-asked.asked 0 c.loop-asked-test.true)
    (c.loop-asked.invariant ledger right)
    (
    λ end here.
    first_of_unfinished coverage.teams c.in_ok-known.known.done c.end.result end
    c.in_ok-unfinished_at.field-0
    (known.teams ∙ c.teams.ensures.value) c.done-done.ensures.is_done
    (known.done (subst P (sym c.teams.ensures.value) ledger))
    (one_number_of coverage index c.end.result end c.teams.ensures.is_coverage c.end.ensures.value here)
    c.in_ok-unfinished_at.ensures))
