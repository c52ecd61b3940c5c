use Rattle.wait_coverage.specs.Waits.{cover_of}
use Rattle.wait_coverage.proofs.CoverageLemmas.{wait_cover}
use Rattle.wait_coverage.proofs.coverage.Coverage.spans.Goals as goal

pub returns-clause-spans : goal.returns-clause-spans
returns-clause-spans c = λ end here.
    let wait = c.wait.result.now in
    let is_wait = c.wait.ensures end here in
    (cover_of wait, wait_cover _ _ end wait is_wait, c.in_ok-spans_of.ensures end is_wait)
