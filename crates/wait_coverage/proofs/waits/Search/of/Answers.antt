use Rattle.wait_coverage.proofs.waits.Search.of.Goals as goal

pub invariant_of-result : goal.invariant_of-result
invariant_of-result c = record { teams = c.run-run.ensures.is_teams; waits = c.requires }
