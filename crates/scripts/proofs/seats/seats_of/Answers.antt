use Rattle.std.proofs.Common.{◌∙◌, ◌++◌, ◌∷◌, ◌-◌, ◌+◌, [], None, Some, ap, arith, sym, subst}
use Rattle.std.specs.Prelude.{option_map}
use Rattle.std.proofs.lemmas.List.{map-append}
use Rattle.std.proofs.lemmas.List.Elements.{All-nil}
use Rattle.credit_ledger.specs.Seats.{halved, with_given}
use Rattle.credit_ledger.specs.Places.{ledger_id, seat_id, view_of}
use Rattle.scripts.specs.Parts.{AreOfLedger, AreSeats, views_of}
use Rattle.scripts.proofs.RunLemmas.{empty_row}
use Rattle.scripts.proofs.SeatLemmas.{AreSeatsOf, seated_more, split_next, none_next, of_ledger_more}
use Rattle.scripts.proofs.SeatLemmas.{all_seated, none_seated}
use Rattle.scripts.proofs.seats.seats_of.Goals as goal
use Rattle.scripts.proofs.seats.seats_of.Goals.{then-is_empty, else-is_empty}

pub loop-thread-init : goal.loop-thread-init
loop-thread-init c =
    let none = c.new-seats.ensures.items in
    record {
      from = omega arith;
      to = omega arith;
      rest = c.requires.ledger;
      ledger = subst (AreOfLedger (ledger_id c.args.ledger.now)) (sym none) (All-nil _);
      seats =
          subst (λ l. AreSeatsOf c.args.threads.now 0 (views_of l) (view_of c.args.first)) (sym none)
          (none_seated c.args.threads.now c.args.first c.requires.unused c.requires.seen c.requires.all);
    }

pub loop-thread-preserved : goal.loop-thread-preserved
loop-thread-preserved c =
    let before = c.loop-thread.invariant in
    let threads = c.args.threads.now in
    let thread = c.loop-thread.thread in
    let items = c.loop-thread.seats.items in
    let pushed = c.push.new.self.items in
    let ledger = ledger_id c.args.ledger.now in
    elim c.if-is_empty.branch [
      | then-is_empty w ↦
          let is = c.in_ok-push.ensures.items ∙ ap (λ seat. items ++ seat ∷ []) w.seat-is in
          record {
            from = omega arith;
            to = omega (arith, c.loop-thread-test.true, c.requires.few);
            rest = ap seat_id w.rest-is ∙ before.rest;
            ledger = of_ledger_more ledger items pushed None is tt before.ledger;
            seats =
                subst (λ rest. AreSeatsOf threads (thread + 1 - 1) (views_of pushed) (view_of rest))
                (sym w.rest-is)
                (seated_more threads thread items pushed None (view_of c.loop-thread.rest) before.from is
                (none_next threads (thread - 1) (views_of items) (view_of c.loop-thread.rest)
                (sym c.row.ensures ∙ empty_row c.row.result.now w.if-is_empty.ensures) before.seats));
          }
      | else-is_empty w ↦
          let is = c.in_ok-push.ensures.items ∙ ap (λ seat. items ++ seat ∷ []) w.seat-is in
          let old = view_of c.loop-thread.rest in
          let own = w.split.result in
          record {
            from = omega arith;
            to = omega (arith, c.loop-thread-test.true, c.requires.few);
            rest = ap seat_id w.rest-is ∙ w.split.ensures.table ∙ before.rest;
            ledger =
                of_ledger_more ledger items pushed (Some own) is (w.split.ensures.place ∙ before.rest)
                before.ledger;
            seats =
                subst (λ rest. AreSeatsOf threads (thread + 1 - 1) (views_of pushed) rest)
                (sym (ap view_of w.rest-is ∙ ap (λ me. me.0) w.split.ensures.seat))
                (seated_more threads thread items pushed (Some own)
                (with_given (halved old) ((view_of own).number + 1)) before.from is
                (split_next threads (thread - 1) (views_of items) old (view_of own) ((view_of own).number + 1)
                w.split.ensures.copy w.split.ensures.shares before.seats));
          }
    ]

pub returns-clause-seats : goal.returns-clause-seats
returns-clause-seats c =
    let before = c.loop-thread.invariant in
    let threads = c.args.threads.now in
    let n = c.loop-thread.thread - 1 in
    let items = c.loop-thread.seats.items in
    subst (AreSeats threads)
    (sym (map-append (option_map view_of) items (Some c.loop-thread.rest ∷ []))
    ∙ ap views_of (sym c.in_ok-push-2.ensures.items))
    (all_seated threads n (views_of items) (view_of c.loop-thread.rest)
    (omega (arith, c.loop-thread-test.false, before.from))
    (omega (arith, before.from, before.to)) before.seats)
