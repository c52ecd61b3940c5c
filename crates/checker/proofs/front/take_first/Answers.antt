use Rattle.std.proofs.Common.{◌∙◌, sym}
use Rattle.std.proofs.lemmas.Bool.{false≢true}
use Rattle.checker.proofs.FrontLemmas.{ready_less, ready_taken, one_less}
use Rattle.checker.proofs.front.take_first.Goals as goal

pub returns-then-not-stands-clause-taken : goal.returns-then-not-stands-clause-taken
returns-then-not-stands-clause-taken c =
    λ rs ready.
    ready_taken rs c.args.placed.now c.in-Some.place c.ready.ready c.take.new.self c.in-Some.ensures.taken
    (λ stands. false≢true (sym c.if-not-stands.true ∙ c.stands.ensures.1 stands))
    c.in-Some.ensures.least (c.ready.invariant rs ready)

pub ready-preserved : goal.ready-preserved
ready-preserved c =
    λ rs ready.
    ready_less rs c.args.placed.now c.in-Some.place c.ready.ready c.take.new.self c.in-Some.ensures.taken
    (c.stands.ensures.0 c.if-not-stands.false) (c.ready.invariant rs ready)

pub ready-smaller : goal.ready-smaller
ready-smaller c = one_less c.in-Some.place c.ready.ready c.take.new.self c.in-Some.ensures.taken
