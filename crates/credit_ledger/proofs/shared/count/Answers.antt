use Rattle.std.proofs.Common.{◌∷◌, Some, ap, sym, ◌∙◌}
use Rattle.atomic_table.specs.Table.{rest}
use Rattle.credit_ledger.specs.Histories.{entries_after}
use Rattle.credit_ledger.proofs.shared.count.Goals as goal

pub slot_mut-requires : goal.slot_mut-requires
slot_mut-requires c = (
  c.requires.place,
  (
    Some (entries_after c.args.place.now.me.0.seen),
    c.requires.ledger
        ∙ ap (λ xs. (0, Some (entries_after c.args.place.now.me.0.seen)) ∷ rest xs) (sym c.requires.ledger),
  ),
)
