use Rattle.std.proofs.Common.{◌≡◌, ◌∙◌, ◌⊎◌, ◌+◌, Some, ap, sym, subst, inl, inr, length}
use Rattle.std.proofs.Common.{rules}
use Rattle.std.specs.Prelude.{All, option_and_then, option_map}
use Rattle.std.proofs.lemmas.List.{length_push}
use Rattle.credit_ledger.specs.Places.{view_of}
use Rattle.scripts.specs.Parts.{HaveEnded, IsEarly, IsOutcome, seat_of}
use Rattle.scripts.proofs.RunLemmas.{ended_more, more_of_ledger, none_more, none_yet}
use Rattle.scripts.proofs.SeatLemmas.{seats_less}
use Rattle.scripts.proofs.running.+run_below.Goals as goal

pub returns-in_default-clause-run : goal.returns-in_default-clause-run
returns-in_default-clause-run g t c =
    let script = g.C.Context.script in
    let empty : length c.args.seats.items ≡ 0 = search rules in
    inr (rw (empty, c.new.ensures.recorders, c.new.ensures.stop) (none_yet script g.C.Context.seats))

pub run_below-requires-clause-views : goal.run_below-requires-clause-views
run_below-requires-clause-views g t c κs within =
    (seats_less g.C.Context.seats c.args.seats.items c.pop.new.self.items c.in-Some.last c.requires.views
    c.in-Some.ensures.items).0

pub returns-in_default-last-clause-run : goal.returns-in_default-last-clause-run
returns-in_default-last-clause-run g t c =
    let script = g.C.Context.script in
    let shared = c.args.shared.now in
    let items = c.pop.new.self.items in
    let here =
    (seats_less g.C.Context.seats c.args.seats.items items c.in-Some.last c.requires.views
    c.in-Some.ensures.items).1 ∙ ap (λ o. Some (option_map view_of o)) c.in_default-last.is in
    let longer : length c.args.seats.items ≡ length items + 1 =
    ap length c.in-Some.ensures.items ∙ length_push items c.in-Some.last in
    elim c.run_below.ensures.run [
      | inl early ↦ inl early
      | inr ended ↦
          inr
          (subst (λ n. HaveEnded script g.C.Context.seats n c.run_below.result.recorders.items
          c.run_below.result.stop) (sym longer)
          (none_more script shared.threads.items g.C.Context.seats (length items)
          c.run_below.result.recorders.items c.run_below.result.stop shared.by_thread shared.seated here
          ended))
    ]

pub start-requires-clause-seat : goal.start-requires-clause-seat
start-requires-clause-seat g t c κs within =
    let items = c.pop.new.self.items in
    let here =
    (seats_less g.C.Context.seats c.args.seats.items items c.in-Some.last c.requires.views
    c.in-Some.ensures.items).1 ∙ ap (λ o. Some (option_map view_of o)) c.in-Some-last.is in
    let number : c.len.result ≡ length items = search rules in
    ap (seat_of g.C.Context.seats) number ∙ ap (option_and_then (λ o. o)) here

pub run_below-rest-requires-clause-views : goal.run_below-rest-requires-clause-views
run_below-rest-requires-clause-views g t c κs within =
    (seats_less g.C.Context.seats c.args.seats.items c.pop.new.self.items c.in-Some.last c.requires.views
    c.in-Some.ensures.items).0

pub returns-clause-ledger : goal.returns-clause-ledger
returns-clause-ledger g t c =
    let r = c.join.result.recorder in
    let rest = c.run_below-rest.result.recorders.items in
    elim c.with.ensures [
      | inl more ↦
          subst (All (λ q. q.ledger ≡ g.C.Context.ledger)) (sym more.0)
          (more_of_ledger g.C.Context.ledger rest r c.run_below-rest.ensures.ledger c.join.ensures.of_ledger)
      | inr less ↦
          subst (All (λ q. q.ledger ≡ g.C.Context.ledger)) (sym less.0) c.run_below-rest.ensures.ledger
    ]

pub returns-clause-run : goal.returns-clause-run
returns-clause-run g t c =
    let script = g.C.Context.script in
    let seats = g.C.Context.seats in
    let items = c.pop.new.self.items in
    let r = c.join.result.recorder in
    let here =
    (seats_less seats c.args.seats.items items c.in-Some.last c.requires.views c.in-Some.ensures.items).1
    ∙ ap (λ o. Some (option_map view_of o)) c.in-Some-last.is in
    let longer : length c.args.seats.items ≡ length items + 1 =
    ap length c.in-Some.ensures.items ∙ length_push items c.in-Some.last in
    let number : c.len.result ≡ length items = search rules in
    let promised =
    subst (λ p. IsOutcome g.C.Context.ledger script seats p.thread r c.join.result.stop)
    c.in-Some-start.ensures
    c.join.ensures in
    subst (λ n. IsEarly c.with.result.stop
    ⊎ HaveEnded script seats n c.with.result.recorders.items c.with.result.stop) (sym longer)
    (ended_more g.C.Context.ledger script seats (length items) (view_of c.in-Some-last.seat)
    c.run_below-rest.result.recorders.items c.with.result.recorders.items r c.run_below-rest.result.stop
    c.join.result.stop c.with.result.stop here
    (subst (λ n. IsOutcome g.C.Context.ledger script seats n r c.join.result.stop) number promised)
    c.run_below-rest.ensures.run c.with.ensures)
