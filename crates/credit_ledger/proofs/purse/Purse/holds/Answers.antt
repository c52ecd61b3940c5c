use Rattle.std.proofs.Common.{sym, ◌∙◌}
use Rattle.credit_ledger.proofs.SettleLemmas.{all_held, known_held}
use Rattle.credit_ledger.proofs.purse.Purse.holds.Goals as goal

pub returns-clause-held : goal.returns-clause-held
returns-clause-held c = (
  (λ yes.
      all_held c.args.self.now c.held_since.result c.args.share.now c.held_since.ensures
      (sym c.is_some.ensures ∙ yes)),
  (λ held.
      c.is_some.ensures
      ∙ known_held c.args.self.now c.held_since.result c.args.share.now c.held_since.ensures held),
)
