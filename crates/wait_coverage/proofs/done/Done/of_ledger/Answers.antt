use Rattle.wait_coverage.proofs.done.Done.of_ledger.Goals as goal
use Rattle.std.proofs.Common.{◌≡◌, ◌∙◌, length, sym, ap, subst}
use Rattle.std.specs.Prelude.{map}
use Rattle.teams.specs.Teams.{TeamsView}
use Rattle.task_tree.specs.Runs.{RunView}
use Rattle.credit_ledger.specs.TraceEntries.{IsLedgerOf}
use Rattle.wait_coverage.specs.Lengths.{done_length, AreLengthsBelow}
use Rattle.wait_coverage.specs.Done.{AreDone, AreOwnLengths}
use Rattle.wait_coverage.proofs.DoneLemmas.{ok_both, own_of_entries}

pub returns-clause-done : goal.returns-clause-done
returns-clause-done c = λ ledger.
    let teams = c.args.teams.now in
    let table = c.in_ok-lengths.lengths.items in
    let entries = c.args.ledger.now in
    let R : RunView → Type 0 =
    λ r. IsLedgerOf r.records entries → AreLengthsBelow r.records (length entries) r.family.tasks table in
    let are : R teams.run = subst R c.run.ensures.value c.in_ok-lengths.ensures.lengths in
    let lengths = c.as_slice.ensures.value in
    ok_both c.by_lengths.result (λ done. done.teams ≡ teams)
    (λ done. done.own ≡ map done_length c.as_slice.result.now) AreDone c.by_lengths.ensures.teams
    c.by_lengths.ensures.own (λ done same own.
    let P : TeamsView → Type 0 = λ t. AreOwnLengths t.run.records t.run.family.tasks done.own in
    subst P (sym same)
    (own_of_entries teams.run.records entries teams.run.family.tasks table done.own
    c.run.ensures.is_teams.run.trace ledger (are ledger) (own ∙ ap (map done_length) lengths)))
