use Rattle.std.proofs.Common.{◌∙◌, ap, subst, sym}
use Rattle.std.specs.Prelude.{slice_get}
use Rattle.callbacks.specs.Begun.{AreBegun, has_begun_one}
use Rattle.callbacks.proofs.BegunLemmas.{IsRangeFrom, none_first, one_first}
use Rattle.callbacks.proofs.begun.Begun.has_begun_one.Goals as goal

pub returns-in-Some-next : goal.returns-in-Some-next
returns-in-Some-next c own are =
    one_first c.in-Some.task own c.self.inside.pairs c.range.result c.in-Some-next.pair.now
    (c.range.ensures.in_range tt) (ap (λ l. slice_get l 0) c.in-Some-next.ensures.steps)
    (subst (AreBegun own) (sym c.self.view_is) are)
    ∙ ap (has_begun_one own) (sym c.in-Some.is)

pub returns-in-None : goal.returns-in-None
returns-in-None c own are =
    none_first c.in-Some.task own c.self.inside.pairs
    (subst (IsRangeFrom c.in-Some.task c.self.inside.pairs) c.in-None.ensures.steps.0
    (c.range.ensures.in_range tt))
    (subst (AreBegun own) (sym c.self.view_is) are)
    ∙ ap (has_begun_one own) (sym c.in-Some.is)
