use Rattle.std.proofs.Common.{ap, ◌∙◌, arith}
use Rattle.credit_ledger.proofs.LockLemmas.{draws_as}
use Rattle.credit_ledger.proofs.shared.draw.Goals as goal

pub compare_exchange-found-requires : goal.compare_exchange-found-requires
compare_exchange-found-requires g c =
    let same = c.tickets.invariant.me in (
      c.tickets.invariant.table ∙ c.requires.place,
      omega (arith, c.requires.board.0),
      draws_as c.args.board.now.shared.table_id.slots c.tickets.place.id c.peek-next.result c.tickets.place.me
          c.requires.board.1
          (ap (λ m. m.0.stage) same ∙ c.requires.stage) (ap (λ m. m.1) same ∙ c.requires.empty),
    )
