use Rattle.std.proofs.Common.{◌∷◌, [], Some, ap, ◌∙◌, arith}
use Rattle.credit_ledger.specs.Histories.{entries_after}
use Rattle.credit_ledger.specs.Seats.{turn_taken}
use Rattle.credit_ledger.proofs.LockLemmas.{looks_as, looked}
use Rattle.credit_ledger.proofs.shared.SharedLedger.look.Goals as goal

pub store-requires : goal.store-requires
store-requires g c =
    let h = c.await_turn.new.place.me.0.seen in
    let is = c.count-len.ensures.view ∙ c.await_turn.ensures.view
    ∙ ap (λ m. (turn_taken m.0 h, (0, Some (entries_after h)) ∷ [])) c.draw-ticket.ensures.ticket in (
      c.count-len.ensures.place ∙ c.await_turn.ensures.place ∙ c.draw-ticket.ensures.place ∙ c.requires.seat,
      omega (arith, c.args.self.now.counts.0),
      looks_as c.args.self.now.board.shared.table_id.slots c.count-len.new.place.id c.count-len.new.place.me
          c.args.seat.now.place.me.0 c.draw-ticket.result h c.args.self.now.counts.1 is,
    )

pub returns-clause-call : goal.returns-clause-call
returns-clause-call g c =
    looked c.args.seat.now.place.me.0 c.draw-ticket.result c.await_turn.new.place.me.0.seen c.count-len.result
    c.draw-ticket.new.place.me c.await_turn.new.place.me c.count-len.new.place.me c.store.new.seat.me
    c.draw-ticket.ensures.ticket c.await_turn.ensures.turn c.await_turn.ensures.view c.count-len.ensures.view
    c.store.ensures.2
    (c.count-len.ensures.count
    ∙ ap (λ m. Rattle.std.specs.Prelude.length (entries_after m.0.seen)) c.await_turn.ensures.view)
