use Rattle.std.proofs.Common.{subst}
use Rattle.checker.specs.Search.{IsLeastFound}
use Rattle.checker.proofs.ReadingLemmas.{least_shown}
use Rattle.checker.proofs.workers.check_packed_on.Goals as goal

pub returns-in-Err-Malformed-clause-verdict : goal.returns-in-Err-Malformed-clause-verdict
returns-in-Err-Malformed-clause-verdict g c =
    least_shown c.args.trace.now.records c.in-Err-Malformed.at c.in-Err-Malformed.cause
    (subst (IsLeastFound c.args.trace.now.records) c.in-Err-Malformed.field-0-is
    c.in-Err-Malformed.ensures.malformed)
