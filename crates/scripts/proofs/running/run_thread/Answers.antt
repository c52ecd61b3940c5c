use Rattle.std.proofs.Common.{◌≡◌, ◌∙◌, ap, sym, refl, arith, Some}
use Rattle.std.specs.Prelude.{get_or}
use Rattle.scripts.specs.Scripts.{ScriptView}
use Rattle.task_states.specs.Rows.{row_at}
use Rattle.credit_ledger.specs.Places.{view_of}
use Rattle.scripts.specs.Parts.{fixed_of, unused_with}
use Rattle.scripts.proofs.RunLemmas.{fixed_first, after_none, placed_at}
use Rattle.scripts.proofs.RunLemmas.{run_here, stops_here, goes_on, ends_here}
use Rattle.scripts.proofs.running.run_thread.Goals as goal
use Rattle.scripts.proofs.running.run_thread.Goals.{then-nests, else-nests}

pub loop-index-init : goal.loop-index-init
loop-index-init g c = elim c.if-nests.branch [
  | then-nests w ↦
      let script = g.C.Context.script in
      let new = w.for_version_3-recorder.ensures in
      let r = w.for_version_3-recorder.result in
      rw (w.recorder-is) (record {
        thread = new.thread;
        ledger = new.ledger ∙ c.requires.ledger;
        fixed = refl;
        run = after_none script g.C.Context.seats c.args.thread r (view_of c.args.seat) new.thread
            (new.nests ∙ sym w.if-nests.true ∙ c.nests.ensures
            ∙ ap (λ (v : ScriptView). v.nests) c.args.shared.now.of_the_script)
            (new.capacity ∙ sym c.args.shared.now.of_capacity) new.records c.requires.seat new.seat
            (c.args.shared.now.seated.new c.args.thread (view_of c.args.seat) c.requires.seat)
            new.known;
      })
  | else-nests w ↦
      let script = g.C.Context.script in
      let new = w.new-recorder.ensures in
      let r = w.new-recorder.result in
      rw (w.recorder-is) (record {
        thread = new.thread;
        ledger = new.ledger ∙ c.requires.ledger;
        fixed = refl;
        run = after_none script g.C.Context.seats c.args.thread r (view_of c.args.seat) new.thread
            (new.nests ∙ sym w.if-nests.false ∙ c.nests.ensures
            ∙ ap (λ (v : ScriptView). v.nests) c.args.shared.now.of_the_script)
            (new.capacity ∙ sym c.args.shared.now.of_capacity) new.records c.requires.seat new.seat
            (c.args.shared.now.seated.new c.args.thread (view_of c.args.seat) c.requires.seat)
            new.known;
      })
]

pub take_step-requires-clause-step : goal.take_step-requires-clause-step
take_step-requires-clause-step g c =
    let shared = c.args.shared.now in
    let row = c.row-places.result.now in
    let is =
    c.row-places.ensures ∙ ap (λ l. row_at l c.from.result) c.as_slice.ensures.value
    ∙ ap (row_at shared.threads.items) c.from.ensures in
    let placed =
    placed_at g.C.Context.script shared.threads.items c.args.thread c.loop-index.index row shared.by_thread is
    (omega (arith, c.loop-index-test.true)) in
    placed.of_thread ∙ ap Some (sym c.loop-index.invariant.thread)

pub take_step-requires-clause-run : goal.take_step-requires-clause-run
take_step-requires-clause-run g c =
    let shared = c.args.shared.now in
    let row = c.row-places.result.now in
    let is =
    c.row-places.ensures ∙ ap (λ l. row_at l c.from.result) c.as_slice.ensures.value
    ∙ ap (row_at shared.threads.items) c.from.ensures in
    let placed =
    placed_at g.C.Context.script shared.threads.items c.args.thread c.loop-index.index row shared.by_thread is
    (omega (arith, c.loop-index-test.true)) in
    (run_here g.C.Context.script g.C.Context.seats c.args.thread c.loop-index.index
    (get_or row c.loop-index.index 0) c.loop-index.recorder placed c.loop-index.invariant.run).0

pub take_step-requires-clause-aware : goal.take_step-requires-clause-aware
take_step-requires-clause-aware g c =
    let shared = c.args.shared.now in
    let row = c.row-places.result.now in
    let is =
    c.row-places.ensures ∙ ap (λ l. row_at l c.from.result) c.as_slice.ensures.value
    ∙ ap (row_at shared.threads.items) c.from.ensures in
    let placed =
    placed_at g.C.Context.script shared.threads.items c.args.thread c.loop-index.index row shared.by_thread is
    (omega (arith, c.loop-index-test.true)) in
    (run_here g.C.Context.script g.C.Context.seats c.args.thread c.loop-index.index
    (get_or row c.loop-index.index 0) c.loop-index.recorder placed c.loop-index.invariant.run).1

pub returns-in-Err : goal.returns-in-Err
returns-in-Err g c =
    let shared = c.args.shared.now in
    let row = c.row-places.result.now in
    let is =
    c.row-places.ensures ∙ ap (λ l. row_at l c.from.result) c.as_slice.ensures.value
    ∙ ap (row_at shared.threads.items) c.from.ensures in
    let placed =
    placed_at g.C.Context.script shared.threads.items c.args.thread c.loop-index.index row shared.by_thread is
    (omega (arith, c.loop-index-test.true)) in
    let failed = c.in-Err.ensures in
    let first : fixed_of c.if-nests.recorder ≡ unused_with (view_of c.args.seat).shares =
    elim c.if-nests.branch [
      | then-nests w ↦
          let new = w.for_version_3-recorder in
          rw (w.recorder-is)
          (fixed_first new.result (view_of c.args.seat) new.ensures.before new.ensures.seat
          (c.args.shared.now.seated.new c.args.thread (view_of c.args.seat) c.requires.seat))
      | else-nests w ↦
          let new = w.new-recorder in
          rw (w.recorder-is)
          (fixed_first new.result (view_of c.args.seat) new.ensures.before new.ensures.seat
          (c.args.shared.now.seated.new c.args.thread (view_of c.args.seat) c.requires.seat))
    ] in
    stops_here g.C.Context.ledger g.C.Context.script g.C.Context.seats c.args.thread c.loop-index.index
    (get_or row c.loop-index.index 0) (view_of c.args.seat)
    c.loop-index.recorder c.take_step.new.recorder
    c.in-Err.stop placed c.loop-index.invariant.run c.requires.seat
    (failed.same.ledger ∙ c.loop-index.invariant.ledger)
    (failed.same.thread ∙ c.loop-index.invariant.thread)
    (failed.same.fixed ∙ c.loop-index.invariant.fixed ∙ first)
    failed.unchanged failed.stop

pub loop-index-preserved : goal.loop-index-preserved
loop-index-preserved g c =
    let shared = c.args.shared.now in
    let row = c.row-places.result.now in
    let is =
    c.row-places.ensures ∙ ap (λ l. row_at l c.from.result) c.as_slice.ensures.value
    ∙ ap (row_at shared.threads.items) c.from.ensures in
    let placed =
    placed_at g.C.Context.script shared.threads.items c.args.thread c.loop-index.index row shared.by_thread is
    (omega (arith, c.loop-index-test.true)) in
    let taken = c.in_default.ensures in
    let of_thread = taken.same.thread ∙ c.loop-index.invariant.thread in
    record {
      thread = of_thread;
      ledger = taken.same.ledger ∙ c.loop-index.invariant.ledger;
      fixed = taken.same.fixed ∙ c.loop-index.invariant.fixed;
      run =
          goes_on g.C.Context.script g.C.Context.seats c.args.thread c.loop-index.index
          (get_or row c.loop-index.index 0)
          c.loop-index.recorder c.take_step.new.recorder placed c.loop-index.invariant.run of_thread
          taken.accepted taken.taken taken.aware;
    }

pub returns : goal.returns
returns g c =
    let shared = c.args.shared.now in
    let row = c.row-places.result.now in
    let is =
    c.row-places.ensures ∙ ap (λ l. row_at l c.from.result) c.as_slice.ensures.value
    ∙ ap (row_at shared.threads.items) c.from.ensures in
    let first : fixed_of c.if-nests.recorder ≡ unused_with (view_of c.args.seat).shares =
    elim c.if-nests.branch [
      | then-nests w ↦
          let new = w.for_version_3-recorder in
          rw (w.recorder-is)
          (fixed_first new.result (view_of c.args.seat) new.ensures.before new.ensures.seat
          (c.args.shared.now.seated.new c.args.thread (view_of c.args.seat) c.requires.seat))
      | else-nests w ↦
          let new = w.new-recorder in
          rw (w.recorder-is)
          (fixed_first new.result (view_of c.args.seat) new.ensures.before new.ensures.seat
          (c.args.shared.now.seated.new c.args.thread (view_of c.args.seat) c.requires.seat))
    ] in
    ends_here g.C.Context.ledger g.C.Context.script shared.threads.items g.C.Context.seats c.args.thread
    c.loop-index.index
    (view_of c.args.seat) row
    c.loop-index.recorder shared.by_thread is
    (omega (arith, c.loop-index-test.false, c.loop-index.auto.index-end))
    c.loop-index.invariant.run c.requires.seat c.loop-index.invariant.ledger
    c.loop-index.invariant.thread (c.loop-index.invariant.fixed ∙ first)
