use Rattle.std.proofs.Common.{ap, sym, ◌∙◌}
use Rattle.online.specs.Spans.{last_from, goes_on, ends}
use Rattle.online.proofs.spans.last_with.Goals as goal

pub returns-in_default : goal.returns-in_default
returns-in_default c = ends (λ small. absurd (c.in_default.ensures small))

pub returns-in-Some-get : goal.returns-in-Some-get
returns-in-Some-get c =
    goes_on c.in-Some-get.last.now
    (ap (last_from c.args.spans.now) (sym c.in-Some.ensures.1) ∙ sym c.in-Some-get.ensures.value)

pub returns-in-None : goal.returns-in-None
returns-in-None c =
    ends (λ small. ap (last_from c.args.spans.now) (sym c.in-Some.ensures.1) ∙ sym c.in-None.ensures.value)
