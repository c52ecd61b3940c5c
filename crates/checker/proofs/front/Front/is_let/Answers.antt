use Rattle.std.proofs.Common.{◌∙◌, refl, sym}
use Rattle.std.proofs.lemmas.Option.{none-some, same_Some}
use Rattle.checker.proofs.MergeLemmas.{stands_same}
use Rattle.checker.proofs.front.Front.is_let.Goals as goal

pub returns-in-Some : goal.returns-in-Some
returns-in-Some c = (
  λ standing other awaits.
      stands_same c.args.self.now.placed.now c.in-Some.awaited other
      (same_Some c.in-Some.awaited other (sym c.in-Some.is ∙ (c.awaited_at.ensures other).1 awaits))
      (c.stands.ensures.0 standing),
  λ all. c.stands.ensures.1 (all c.in-Some.awaited ((c.awaited_at.ensures c.in-Some.awaited).0 c.in-Some.is)),
)

pub returns-in-None : goal.returns-in-None
returns-in-None c = (
  λ yes other awaits. absurd (none-some other (sym c.in-None.is ∙ (c.awaited_at.ensures other).1 awaits)),
  λ all. refl,
)
