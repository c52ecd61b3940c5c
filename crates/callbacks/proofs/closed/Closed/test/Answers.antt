use Rattle.std.proofs.Common.{◌∙◌, sym}
use Rattle.std.proofs.lemmas.Bool.{false≢true}
use Rattle.callbacks.specs.Gathered.{not_together, too_many}
use Rattle.callbacks.proofs.closed.Closed.test.Goals as goal

pub returns-then-not-belong_together-clause-fault : goal.returns-then-not-belong_together-clause-fault
returns-then-not-belong_together-clause-fault c =
    not_together (λ together.
    false≢true (sym c.if-not-belong_together.true ∙ c.belong_together.ensures.1 together))

pub returns-then-not-is_within-clause-fault : goal.returns-then-not-is_within-clause-fault
returns-then-not-is_within-clause-fault c =
    too_many (c.belong_together.ensures.0 c.if-not-belong_together.false)
    (λ within. false≢true (sym c.if-not-is_within.true ∙ c.is_within.ensures.1 within))
