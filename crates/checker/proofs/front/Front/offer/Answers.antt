use Rattle.checker.proofs.FrontLemmas.{more_put, has_put}
use Rattle.checker.proofs.front.Front.offer.Goals as goal

pub returns-in_ok-put-clause-more : goal.returns-in_ok-put-clause-more
returns-in_ok-put-clause-more c =
    more_put c.args.self.now.run.now.records c.args.self.now.placed.now c.args.place c.args.ready.now
    c.put.new.self c.in_ok-put.ensures (c.may_follow.ensures.0 c.if-may_follow.true)

pub returns-in_ok-put-clause-offered : goal.returns-in_ok-put-clause-offered
returns-in_ok-put-clause-offered c =
    λ may. has_put c.args.place c.args.ready.now c.put.new.self c.in_ok-put.ensures
