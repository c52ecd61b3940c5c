use Rattle.std.proofs.Common.{arith, refl}
use Rattle.ompt_events.specs.declared.cause.Cause.TheVariants.{CreatedTwice, Rootless}
use Rattle.ompt_events.specs.CauseNames.{before}
use Rattle.checker.specs.Search.{IsClear}
use Rattle.checker.proofs.all_shown.all_shown.Goals as goal

pub rootless_records-requires : goal.rootless_records-requires
rootless_records-requires c =
    let clear : IsClear c.args.trace.now.records (before Rootless) = rw c.in-Rootless.is at c.requires in
    clear CreatedTwice (1, omega arith, refl)
