use Rattle.std.proofs.Common.{arith}
use Rattle.checker.specs.Merge.{named_length}
use Rattle.checker.proofs.FrontLemmas.{more_then}
use Rattle.checker.proofs.waiting.Waiting.release.Goals as goal

pub returns-clause-more : goal.returns-clause-more
returns-clause-more c =
    let it = c.args.front.now in
    more_then it.run.now.records it.placed.now c.args.ready.now c.offer_awaiting.new.ready
    c.offer_lists.new.ready
    (more_then it.run.now.records it.placed.now c.args.ready.now c.offer.new.ready c.offer_awaiting.new.ready
    c.in_ok-offer.ensures.more c.in_ok-offer_awaiting.ensures.more)
    c.in_ok-offer_lists.ensures.more

pub returns-clause-next : goal.returns-clause-next
returns-clause-next c =
    λ may.
    c.in_ok-offer_lists.ensures.more.kept c.args.placed.next
    (c.in_ok-offer_awaiting.ensures.more.kept c.args.placed.next (c.in_ok-offer.ensures.offered may))

pub returns-clause-awaiting : goal.returns-clause-awaiting
returns-clause-awaiting c =
    λ i awaits may.
    c.in_ok-offer_lists.ensures.more.kept i (c.in_ok-offer_awaiting.ensures.awaiting i awaits may)

pub returns-clause-naming : goal.returns-clause-naming
returns-clause-naming c =
    λ i k above below is may.
    c.in_ok-offer_lists.ensures.offered (named_length c.args.front.now.run.now.records)
    c.requires.waiting.naming i k (omega (arith, above)) (omega (arith, below)) is may
