use Rattle.wait_coverage.proofs.unfinished.find_marks.Goals as goal

pub of-search-requires : goal.of-search-requires
of-search-requires c = rw c.teams.ensures.value c.requires
