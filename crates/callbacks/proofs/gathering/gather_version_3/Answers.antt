use Rattle.std.proofs.Common.{true}
use Rattle.ompt_events.specs.declared.cause.Cause.TheVariants.{SeqGap, RegionNesting, EntryTwice}
use Rattle.ompt_events.specs.declared.cause.Cause.TheVariants.{LengthAhead, LengthBack}
use Rattle.ompt_events.specs.Causes.{IsFreeOf}
use Rattle.callbacks.specs.Gathered.{AreHandedOver}
use Rattle.callbacks.proofs.TraceLemmas.{of_trace}
use Rattle.callbacks.proofs.ThreadLaws.{threads_numbered}
use Rattle.callbacks.proofs.NestedLaw.{none_misnested}
use Rattle.callbacks.proofs.PairLaw.{none_ahead}
use Rattle.callbacks.proofs.KnownLaw.{none_back}
use Rattle.callbacks.proofs.gathering.gather_version_3.Goals as goal

pub returns-clause-numbered : goal.returns-clause-numbered
returns-clause-numbered c =
    of_trace c.gathered_as.result true c.args.closed (λ rs. IsFreeOf rs SeqGap)
    c.gathered_as.ensures.trace c.gathered_as.ensures.are_closed c.gathered_as.ensures.together
    (λ are together. threads_numbered c.args.closed are together.apart)

pub returns-clause-nested : goal.returns-clause-nested
returns-clause-nested c =
    of_trace c.gathered_as.result true c.args.closed (λ rs. IsFreeOf rs RegionNesting)
    c.gathered_as.ensures.trace c.gathered_as.ensures.are_closed c.gathered_as.ensures.together
    (λ are together. none_misnested c.args.closed are together.apart)

pub returns-clause-once : goal.returns-clause-once
returns-clause-once c =
    of_trace c.gathered_as.result true c.args.closed (λ rs. IsFreeOf rs EntryTwice)
    c.gathered_as.ensures.trace c.gathered_as.ensures.are_closed c.gathered_as.ensures.together
    (λ are together. together.paired.once)

pub returns-clause-not_ahead : goal.returns-clause-not_ahead
returns-clause-not_ahead c =
    of_trace c.gathered_as.result true c.args.closed (λ rs. IsFreeOf rs LengthAhead)
    c.gathered_as.ensures.trace c.gathered_as.ensures.are_closed c.gathered_as.ensures.together
    (λ are together. none_ahead c.args.closed are together.apart together.paired)

pub returns-clause-rising : goal.returns-clause-rising
returns-clause-rising c =
    of_trace c.gathered_as.result true c.args.closed (λ rs. AreHandedOver rs → IsFreeOf rs LengthBack)
    c.gathered_as.ensures.trace c.gathered_as.ensures.are_closed c.gathered_as.ensures.together
    (λ are together. none_back c.args.closed are together.apart)
