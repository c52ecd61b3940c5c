use Rattle.wait_coverage.proofs.CoverageLemmas.{wait_cover}
use Rattle.wait_coverage.proofs.coverage.Coverage.cover.Goals as goal

pub returns : goal.returns
returns c = λ end here. rw c.cover.ensures (wait_cover _ _ end c.wait.result.now (c.wait.ensures end here))
