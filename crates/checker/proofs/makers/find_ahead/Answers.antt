use Rattle.std.proofs.Common.{arith}
use Rattle.ompt_events.specs.Causes.{IsAhead}
use Rattle.ompt_events.proofs.ShownLemmas.{none_below, noted}
use Rattle.checker.proofs.EntryLemmas.{all_ahead}
use Rattle.checker.proofs.makers.find_ahead.Goals as goal

pub loop-at-init : goal.loop-at-init
loop-at-init c = rw c.none-shown.ensures (none_below (IsAhead c.args.run.now.records))

pub loop-at-preserved : goal.loop-at-preserved
loop-at-preserved c =
    noted (IsAhead c.args.run.now.records) c.loop-at.at c.is_ahead.result c.loop-at.shown c.note.new.self
    c.is_ahead.ensures c.in_ok-note.ensures c.loop-at.invariant

pub returns : goal.returns
returns c =
    all_ahead c.args.run.now.records c.loop-at.at c.loop-at.shown
    (let end = rw c.len-at-end.ensures.value at c.loop-at-test.false in
    omega (arith, end, c.loop-at.auto.at-end, c.len-at-end.ensures.value))
    c.loop-at.invariant
