use Rattle.checker.proofs.AllShownLemmas.{least_clear}
use Rattle.checker.proofs.findings.Findings.of.Goals as goal

pub all_shown-requires : goal.all_shown-requires
all_shown-requires c =
    least_clear c.args.trace.now.records c.in-Malformed.at c.in-Malformed.cause
    (rw c.in-Malformed.is at c.requires)
