use Rattle.std.proofs.Common.{◌∙◌, sym}
use Rattle.std.proofs.lemmas.Bool.{false≢true}
use Rattle.checker.proofs.BackLemmas.{behind_awaits}
use Rattle.checker.proofs.lengths.is_behind.Goals as goal

pub returns-clause-behind : goal.returns-clause-behind
returns-clause-behind c =
    let same =
    behind_awaits c.args.run.now.records c.args.at c.requires.known.facts
    (λ falls. false≢true (sym c.if-falls.false ∙ c.falls_on_thread-falls.ensures.falls.1 falls))
    (λ again. false≢true (sym c.if-again.false ∙ c.starts_again-again.ensures.again.1 again)) in (
      λ holds. same.0 (c.precedes_awaited.ensures.0 holds),
      λ behind. c.precedes_awaited.ensures.1 (same.1 behind),
    )
