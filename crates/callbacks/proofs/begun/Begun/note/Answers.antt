use Rattle.std.proofs.Common.{◌∙◌, sym, ap, subst}
use Rattle.ompt_events.specs.Records.{forked}
use Rattle.callbacks.specs.Begun.{AreBegun}
use Rattle.callbacks.proofs.BegunLemmas.{noted}
use Rattle.callbacks.proofs.begun.Begun.note.Goals as goal

pub returns-in_ok-insert-in-Some-clause-noted : goal.returns-in_ok-insert-in-Some-clause-noted
returns-in_ok-insert-in-Some-clause-noted c nests own r is are =
    noted own r c.in-Some.pair c.self.inside.pairs c.insert.new.self
    (ap forked is ∙ sym c.forked.ensures ∙ c.in-Some.is) c.in_ok-insert-in-Some.ensures.updates
    (subst (AreBegun own) (sym c.self.view_is) are)
