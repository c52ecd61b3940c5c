use Rattle.std.proofs.Common.{◌≡◌, ℕ, length, ◌∙◌, ap, sym, subst, refl, arith, Bool}
use Rattle.std.specs.Prelude.{IsTrue, ◌↔◌}
use Rattle.credit_ledger.specs.declared.entry.Cover.TheVariants.{Descendants}
use Rattle.credit_ledger.specs.Entries.{IsSpanHeld}
use Rattle.credit_ledger.specs.Histories.{entries_after, IsOver}
use Rattle.credit_ledger.proofs.OverLemmas.{over_by}
use Rattle.credit_ledger.proofs.LockLemmas.{looks_as, looked, looked-list, turn_view, if_ok-map}
use Rattle.credit_ledger.proofs.shared.SharedLedger.whole.Goals as goal

pub store-requires : goal.store-requires
store-requires g c =
    let h = c.await_turn.new.place.me.0.seen in (
      c.held-whole.ensures.place ∙ c.await_turn.ensures.place ∙ c.draw-ticket.ensures.place ∙ c.requires.seat,
      omega (arith, c.args.self.now.counts.0),
      looks_as c.args.self.now.board.shared.table_id.slots c.held-whole.new.place.id c.held-whole.new.place.me
          c.args.seat.now.place.me.0 c.draw-ticket.result h c.args.self.now.counts.1
          (c.held-whole.ensures.view
          ∙ turn_view c.args.seat.now.place.me.0 c.draw-ticket.result h c.draw-ticket.new.place.me
          c.await_turn.new.place.me c.draw-ticket.ensures.ticket c.await_turn.ensures.view),
    )

pub returns-clause-told : goal.returns-clause-told
returns-clause-told g c =
    if_ok-map
    (λ (whole : ℕ × Bool) (count : whole.0 ≡ length (entries_after c.await_turn.new.place.me.0.seen)).
    looked c.args.seat.now.place.me.0 c.draw-ticket.result c.await_turn.new.place.me.0.seen whole.0
    c.draw-ticket.new.place.me c.await_turn.new.place.me c.held-whole.new.place.me c.store.new.seat.me
    c.draw-ticket.ensures.ticket c.await_turn.ensures.turn c.await_turn.ensures.view c.held-whole.ensures.view
    c.store.ensures.2 count)
    c.held-whole.result c.held-whole.ensures.count

pub returns-clause-held : goal.returns-clause-held
returns-clause-held g c =
    let list : entries_after c.store.new.seat.me.0.seen ≡ entries_after c.await_turn.new.place.me.0.seen =
    looked-list c.held-whole.new.place.me c.store.new.seat.me c.store.ensures.2
    ∙ ap (λ m. entries_after m.0.seen) c.held-whole.ensures.view in
    if_ok-map
    (λ (whole : ℕ × Bool)
    (is : IsTrue whole.1
    ↔ IsSpanHeld (entries_after c.await_turn.new.place.me.0.seen) c.args.span.now Descendants).
    subst (λ es. IsTrue whole.1 ↔ IsSpanHeld es c.args.span.now Descendants) (sym list) is)
    c.held-whole.result c.held-whole.ensures.held

pub returns-clause-looked : goal.returns-clause-looked
returns-clause-looked g c = (
  length (entries_after c.await_turn.new.place.me.0.seen),
  looked c.args.seat.now.place.me.0 c.draw-ticket.result c.await_turn.new.place.me.0.seen
      (length (entries_after c.await_turn.new.place.me.0.seen))
      c.draw-ticket.new.place.me c.await_turn.new.place.me c.held-whole.new.place.me c.store.new.seat.me
      c.draw-ticket.ensures.ticket c.await_turn.ensures.turn c.await_turn.ensures.view
      c.held-whole.ensures.view c.store.ensures.2 refl,
)

pub returns-clause-over : goal.returns-clause-over
returns-clause-over g c =
    let list : entries_after c.store.new.seat.me.0.seen ≡ entries_after c.await_turn.new.place.me.0.seen =
    looked-list c.held-whole.new.place.me c.store.new.seat.me c.store.ensures.2
    ∙ ap (λ m. entries_after m.0.seen) c.held-whole.ensures.view in
    if_ok-map
    {Q =
    λ (whole : ℕ × Bool).
    IsTrue whole.1 → IsOver (entries_after c.store.new.seat.me.0.seen) c.args.span.now}
    (λ (whole : ℕ × Bool)
    (is : IsTrue whole.1
    ↔ IsSpanHeld (entries_after c.await_turn.new.place.me.0.seen) c.args.span.now Descendants)
    (held : IsTrue whole.1).
    subst (λ es. IsOver es c.args.span.now) (sym list)
    (over_by (entries_after c.await_turn.new.place.me.0.seen) c.args.span.now (is.0 held)))
    c.held-whole.result c.held-whole.ensures.held
