use Rattle.std.proofs.Common.{◌∷◌, ◌++◌, [], Some, sym, ap, ◌∙◌, subst}
use Rattle.atomic_table.specs.Table.{opening}
use Rattle.credit_ledger.specs.Seats.{Kept, newcomer}
use Rattle.credit_ledger.proofs.SeatLemmas.{begins}
use Rattle.credit_ledger.proofs.shared.SharedLedger.new.Goals as goal

pub new-requires-2 : goal.new-requires-2
new-requires-2 c =
    let items =
    c.in-Ok.ensures.items ∙ ap (λ xs. xs ++ Some c.new.result ∷ []) c.new-slots.ensures.items
    ∙ ap (λ es. Some es ∷ []) c.new.ensures in
    subst (λ xs. Kept (opening (0 ∷ 0 ∷ []) xs newcomer)) (sym items) begins
