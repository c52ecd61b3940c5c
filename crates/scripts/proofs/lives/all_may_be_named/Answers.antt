use Rattle.std.proofs.Common.{◌∙◌, ◌+◌, ◌&&◌, Bool, sym, ap, drop}
use Rattle.scripts.specs.Keeping.{all_may_be_named}
use Rattle.scripts.proofs.LifeLemmas.{named_next}
use Rattle.scripts.proofs.lives.all_may_be_named.Goals as goal

pub returns-then-not-may_be_named : goal.returns-then-not-may_be_named
returns-then-not-may_be_named c =
    sym (c.loop-at.invariant
    ∙ named_next c.args.lives.now c.args.made c.args.tasks.now c.loop-at.at _ _ c.loop-at-test.true
    c.is_made.ensures c.may_be_named.ensures
    ∙ ap
    (λ (b : Bool).
    b && all_may_be_named c.args.lives.now c.args.made (drop (c.loop-at.at + 1) c.args.tasks.now))
    c.if-not-may_be_named.true)

pub loop-at-preserved : goal.loop-at-preserved
loop-at-preserved c =
    c.loop-at.invariant
    ∙ named_next c.args.lives.now c.args.made c.args.tasks.now c.loop-at.at _ _ c.loop-at-test.true
    c.is_made.ensures c.may_be_named.ensures
    ∙ ap
    (λ (b : Bool).
    b && all_may_be_named c.args.lives.now c.args.made (drop (c.loop-at.at + 1) c.args.tasks.now))
    c.if-not-may_be_named.false
