use Rattle.std.proofs.Common.{◌≡◌, ◌∙◌, ◌<◌, length, ap, arith}
use Rattle.std.specs.Prelude.{slice_index}
use Rattle.checker.specs.Counter.{AreRaisedTo}
use Rattle.checker.proofs.BeforeLemmas.{makers_start, makers_more, makers_none}
use Rattle.checker.proofs.before.raise_to_makers.Goals as goal
use Rattle.checker.proofs.before.raise_to_makers.Goals.{then-maker-len, else-maker-len}

pub loop-entry-init : goal.loop-entry-init
loop-entry-init c = makers_start c.args.makers.now.run.records c.args.bounds.now

pub loop-entry-preserved : goal.loop-entry-preserved
loop-entry-preserved c =
    let rs = c.args.makers.now.run.records in
    let makers = c.args.makers.now.places in
    let entry = c.loop-entry.entry in
    let old = c.args.bounds.now in
    let mid = c.loop-entry.bounds in
    let are = c.run-run.ensures.is_ledger.makers in
    let inside : entry < length makers =
    let test = c.loop-entry-test.true in
    let reached = c.requires.reached in omega (arith, test, reached) in
    let count : c.len.result ≡ length rs =
    c.len.ensures.value ∙ ap (λ r. length r.records) c.run-run.ensures.value in
    let read : slice_index c.places-places.result.now entry ≡ slice_index makers entry =
    ap (λ l. slice_index l entry) c.places-places.ensures in
    elim c.if-maker-len.branch [
      | then-maker-len w ↦
          let raised : AreRaisedTo rs (λ k. k ≡ slice_index makers entry) mid w.raise.new.bounds =
          rw (c.run-run.ensures.value, c.places-places.ensures) at w.raise.ensures in
          rw w.bounds-is
          (makers_more rs entry makers old mid w.raise.new.bounds are inside
          (let low = w.if-maker-len.true in omega (arith, low, count, read)) c.loop-entry.invariant
          raised)
      | else-maker-len w ↦
          rw w.bounds-is
          (makers_none rs entry makers old mid are inside
          (let past = w.if-maker-len.false in omega (arith, past, count, read))
          c.loop-entry.invariant)
    ]
