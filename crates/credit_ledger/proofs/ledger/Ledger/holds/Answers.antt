use Rattle.std.proofs.Common.{◌≡◌, ◌≢◌, refl, sym, ◌∙◌, subst, arith, ⊎_elim, take}
use Rattle.std.proofs.lemmas.Bool.{cases_eq, false≢true, both_ways}
use Rattle.credit_ledger.specs.Entries.{IsChildHeld}
use Rattle.credit_ledger.proofs.ledger.Ledger.holds.Goals as goal

pub returns-then-not-is_held_by-clause-held : goal.returns-then-not-is_held_by-clause-held
returns-then-not-is_held_by-clause-held c = (
  (λ by. absurd (false≢true by)),
  (λ held. absurd (both_ways c.is_held_by.result c.if-not-is_held_by.true
      (c.is_held_by.ensures
      ∙ (c.in_ok-from.ensures.from c.args.upto).1
      (subst
      (λ p.
      IsChildHeld (take c.args.upto c.args.self.now) c.args.span.now.root p c.children.number
      c.args.cover)
      (sym c.as_slice.ensures) (held c.children.number (omega arith) (omega arith)))))),
)

pub children-preserved : goal.children-preserved
children-preserved c = λ n low high.
    ⊎_elim
    (λ (same : n ≡ c.children.number).
    subst
    (λ k.
    IsChildHeld (take c.args.upto c.args.self.now) c.args.span.now.root c.args.span.now.path k
    c.args.cover)
    (sym same)
    (subst
    (λ p.
    IsChildHeld (take c.args.upto c.args.self.now) c.args.span.now.root p c.children.number
    c.args.cover)
    c.as_slice.ensures
    ((c.in_ok-from.ensures.from c.args.upto).0 (sym c.is_held_by.ensures ∙ c.if-not-is_held_by.false))))
    (λ (other : n ≢ c.children.number). c.children.invariant n low (omega arith))
    (cases_eq n c.children.number)

pub returns-clause-held : goal.returns-clause-held
returns-clause-held c = (
  (λ yes number low high. c.children.invariant number low (omega arith)),
  (λ held. refl),
)
