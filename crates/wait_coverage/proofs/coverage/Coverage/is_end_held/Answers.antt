use Rattle.std.proofs.Common.{◌∙◌, sym, ap}
use Rattle.ompt_events.specs.Places.{seen_at}
use Rattle.credit_ledger.proofs.LockLemmas.{if_ok-map}
use Rattle.teams.specs.Teams.{TeamsView}
use Rattle.task_tree.specs.Runs.{RunView}
use Rattle.wait_coverage.specs.Waits.{cover_of}
use Rattle.wait_coverage.proofs.CoverageLemmas.{one_number_of, held_complete}
use Rattle.wait_coverage.proofs.coverage.Coverage.is_end_held.Goals as goal

pub returns-clause-held : goal.returns-clause-held
returns-clause-held c = λ ledger right.
    let coverage = c.args.self.now in
    let run = coverage.teams.run in
    let wait = c.wait-wait.result.now in
    let is_run = c.run.ensures.value ∙ ap (λ (t : TeamsView). t.run) c.teams.ensures.value in
    let seen = c.seen-seen.ensures ∙ ap (λ (r : RunView). seen_at r.records c.end.result) is_run in
    if_ok-map (λ held tells is end here.
    let at_end =
    one_number_of coverage c.args.index c.end.result end c.teams.ensures.is_coverage c.end.ensures.value
    here in
    let names = ap (seen_at run.records) (sym at_end) ∙ sym seen in
    held_complete coverage c.args.ledger.now end c.seen-seen.result (cover_of wait) c.in_ok-spans.spans.items
    c.teams.ensures.is_coverage right ledger
    (c.in_ok-spans.ensures end (c.wait-wait.ensures end here)) names
    (rw (c.cover.ensures, c.as_slice.ensures.value) at (tells is))
    ) c.are_held.result c.are_held.ensures.held
