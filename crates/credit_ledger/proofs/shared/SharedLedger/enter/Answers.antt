use Rattle.std.proofs.Common.{◌∷◌, ◌++◌, [], length, Some, ◌∙◌, ap, refl, arith}
use Rattle.credit_ledger.specs.Histories.{entries_after}
use Rattle.credit_ledger.proofs.LockLemmas.{looks_as, calls_as, looked, entered, turn_view}
use Rattle.credit_ledger.proofs.shared.SharedLedger.enter.Goals as goal

pub store-requires : goal.store-requires
store-requires g c =
    let h = c.await_turn.new.place.me.0.seen in
    let is =
    turn_view c.args.seat.now.place.me.0 c.draw-ticket.result h c.draw-ticket.new.place.me
    c.await_turn.new.place.me c.draw-ticket.ensures.ticket c.await_turn.ensures.view in (
      c.put.ensures.place ∙ c.await_turn.ensures.place ∙ c.draw-ticket.ensures.place ∙ c.requires.seat,
      omega (arith, c.args.self.now.counts.0),
      calls_as c.args.self.now.board.shared.table_id.slots c.put.new.place.id c.put.new.place.me
          c.args.seat.now.place.me.0 c.draw-ticket.result h c.args.entry c.args.self.now.counts.1
          (c.in-Ok.ensures.entered
          ∙ ap (λ m. (m.0, (0, Some (entries_after h ++ c.args.entry ∷ [])) ∷ [])) is)
          c.args.seat.now.right c.in-Ok.ensures.possible,
    )

pub store-requires-in-Err : goal.store-requires-in-Err
store-requires-in-Err g c =
    let h = c.await_turn.new.place.me.0.seen in (
      c.put.ensures.place ∙ c.await_turn.ensures.place ∙ c.draw-ticket.ensures.place ∙ c.requires.seat,
      omega (arith, c.args.self.now.counts.0),
      looks_as c.args.self.now.board.shared.table_id.slots c.put.new.place.id c.put.new.place.me
          c.args.seat.now.place.me.0 c.draw-ticket.result h c.args.self.now.counts.1
          (c.in-Err.ensures.unchanged
          ∙ turn_view c.args.seat.now.place.me.0 c.draw-ticket.result h c.draw-ticket.new.place.me
          c.await_turn.new.place.me c.draw-ticket.ensures.ticket c.await_turn.ensures.view),
    )

pub returns-in-Ok-clause-entered : goal.returns-in-Ok-clause-entered
returns-in-Ok-clause-entered g c =
    entered c.args.seat.now.place.me.0 c.draw-ticket.result c.await_turn.new.place.me.0.seen c.args.entry
    c.in-Ok.index
    c.draw-ticket.new.place.me c.await_turn.new.place.me c.put.new.place.me c.store.new.seat.me
    c.draw-ticket.ensures.ticket c.await_turn.ensures.turn c.await_turn.ensures.view c.in-Ok.ensures.entered
    c.store.ensures.2 c.in-Ok.ensures.index c.in-Ok.ensures.possible

pub returns-in-Err-clause-looked : goal.returns-in-Err-clause-looked
returns-in-Err-clause-looked g c = (
  length (entries_after c.await_turn.new.place.me.0.seen),
  looked c.args.seat.now.place.me.0 c.draw-ticket.result c.await_turn.new.place.me.0.seen
      (length (entries_after c.await_turn.new.place.me.0.seen))
      c.draw-ticket.new.place.me c.await_turn.new.place.me c.put.new.place.me c.store-in-Err.new.seat.me
      c.draw-ticket.ensures.ticket c.await_turn.ensures.turn c.await_turn.ensures.view
      c.in-Err.ensures.unchanged c.store-in-Err.ensures.2 refl,
)
