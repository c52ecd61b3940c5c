use Rattle.std.proofs.Common.{refl, arith}
use Rattle.ompt_events.specs.declared.cause.Cause.TheVariants.{EntryTwice, LengthAhead}
use Rattle.checker.proofs.deciding.Deciding.of.Goals as goal

pub of-requires-clause-once : goal.of-requires-clause-once
of-requires-clause-once c =
    rw c.sound.ensures.run (c.sound.ensures.is_clear.well_formed EntryTwice (13, omega arith, refl))

pub of-requires-clause-reached : goal.of-requires-clause-reached
of-requires-clause-reached c =
    rw c.sound.ensures.run (c.sound.ensures.is_clear.well_formed LengthAhead (14, omega arith, refl))
