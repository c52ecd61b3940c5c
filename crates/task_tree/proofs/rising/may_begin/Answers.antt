use Rattle.std.proofs.Common.{◌∙◌, sym, ap, arith}
use Rattle.std.proofs.lemmas.Bool.{false≢true, lt-ltb}
use Rattle.std.specs.Prelude.{is_some}
use Rattle.task_tree.specs.Rising.{may_next}
use Rattle.task_tree.proofs.RisingPassLemmas.{next_may_follow}
use Rattle.task_tree.proofs.rising.may_begin.Goals as goal

pub returns-then-not-is_next : goal.returns-then-not-is_next
returns-then-not-is_next c records body task family told stands = (
  λ is. absurd (false≢true is),
  λ may.
      absurd
      (false≢true
      (sym c.if-not-is_next.true
      ∙ c.is_next.ensures.1
      (next_may_follow records task c.args.begin.turn body c.args.known
      (λ none. false≢true (sym (ap is_some none) ∙ sym told ∙ c.if-not-told.false))
      may).0)),
)

pub returns-then-begin-gt0 : goal.returns-then-begin-gt0
returns-then-begin-gt0 c records body task family told stands = (
  λ is.
      may_next (c.is_next.ensures.0 c.if-not-is_next.false)
      (λ first. absurd (omega (arith, first, c.if-begin-gt0.true))),
  λ may. lt-ltb 0 c.args.begin.turn c.if-begin-gt0.true,
)

pub returns-else-begin-gt0 : goal.returns-else-begin-gt0
returns-else-begin-gt0 c records body task family told stands =
    let explicit = c.is_explicit_at.ensures records family task stands in (
      λ is. may_next (c.is_next.ensures.0 c.if-not-is_next.false) (λ first. explicit.0 is),
      λ may.
          explicit.1
          ((next_may_follow records task c.args.begin.turn body c.args.known
          (λ none. false≢true (sym (ap is_some none) ∙ sym told ∙ c.if-not-told.false))
          may).1
          (omega (arith, c.if-begin-gt0.false))),
    )
