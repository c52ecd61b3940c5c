use Rattle.std.proofs.Common.{arith}
use Rattle.ompt_events.proofs.ShownLemmas.{none_below, noted}
use Rattle.checker.specs.Merge.{IsUnplaced}
use Rattle.checker.proofs.MergingLemmas.{all_unplaced}
use Rattle.checker.proofs.merge.unplaced.Goals as goal

pub loop-at-init : goal.loop-at-init
loop-at-init c = rw c.none-shown.ensures (none_below (IsUnplaced c.args.placed.now))

pub loop-at-preserved : goal.loop-at-preserved
loop-at-preserved c =
    noted (IsUnplaced c.args.placed.now) c.loop-at.at c.is_unplaced.result c.loop-at.shown c.note.new.self
    c.is_unplaced.ensures c.in_ok-note.ensures c.loop-at.invariant

pub returns : goal.returns
returns c =
    all_unplaced c.args.placed.now c.loop-at.at c.loop-at.shown
    (omega (arith, c.loop-at-test.false, c.loop-at.auto.at-end)) c.loop-at.invariant
