use Rattle.std.proofs.Common.{false}
use Rattle.ompt_events.specs.declared.cause.Cause.TheVariants.{SeqGap, CreatedTwice, NestedParallel}
use Rattle.ompt_events.specs.declared.cause.Cause.TheVariants.{EntryTwice, LengthAhead, LengthBack}
use Rattle.ompt_events.specs.declared.cause.Cause.TheVariants.{TargetTask}
use Rattle.ompt_events.specs.Causes.{IsFreeOf}
use Rattle.callbacks.specs.Gathered.{AreHandedOver}
use Rattle.callbacks.proofs.TraceLemmas.{of_trace}
use Rattle.callbacks.proofs.ThreadLaws.{threads_numbered, none_on_device}
use Rattle.callbacks.proofs.NestedLaw.{none_nested}
use Rattle.callbacks.proofs.PairLaw.{none_ahead}
use Rattle.callbacks.proofs.KnownLaw.{none_back}
use Rattle.callbacks.proofs.gathering.gather.Goals as goal

pub returns-clause-numbered : goal.returns-clause-numbered
returns-clause-numbered c =
    of_trace c.gathered_as.result false c.args.closed (λ rs. IsFreeOf rs SeqGap)
    c.gathered_as.ensures.trace c.gathered_as.ensures.are_closed c.gathered_as.ensures.together
    (λ are together. threads_numbered c.args.closed are together.apart)

pub returns-clause-outside : goal.returns-clause-outside
returns-clause-outside c =
    of_trace c.gathered_as.result false c.args.closed
    (λ rs. IsFreeOf rs CreatedTwice → IsFreeOf rs NestedParallel)
    c.gathered_as.ensures.trace c.gathered_as.ensures.are_closed c.gathered_as.ensures.together
    (λ are together. none_nested c.args.closed are together.apart)

pub returns-clause-once : goal.returns-clause-once
returns-clause-once c =
    of_trace c.gathered_as.result false c.args.closed (λ rs. IsFreeOf rs EntryTwice)
    c.gathered_as.ensures.trace c.gathered_as.ensures.are_closed c.gathered_as.ensures.together
    (λ are together. together.paired.once)

pub returns-clause-not_ahead : goal.returns-clause-not_ahead
returns-clause-not_ahead c =
    of_trace c.gathered_as.result false c.args.closed (λ rs. IsFreeOf rs LengthAhead)
    c.gathered_as.ensures.trace c.gathered_as.ensures.are_closed c.gathered_as.ensures.together
    (λ are together. none_ahead c.args.closed are together.apart together.paired)

pub returns-clause-on_host : goal.returns-clause-on_host
returns-clause-on_host c =
    of_trace c.gathered_as.result false c.args.closed (λ rs. IsFreeOf rs TargetTask)
    c.gathered_as.ensures.trace c.gathered_as.ensures.are_closed c.gathered_as.ensures.together
    (λ are together. none_on_device c.args.closed are)

pub returns-clause-rising : goal.returns-clause-rising
returns-clause-rising c =
    of_trace c.gathered_as.result false c.args.closed (λ rs. AreHandedOver rs → IsFreeOf rs LengthBack)
    c.gathered_as.ensures.trace c.gathered_as.ensures.are_closed c.gathered_as.ensures.together
    (λ are together. none_back c.args.closed are together.apart)
