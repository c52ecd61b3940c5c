use Rattle.std.proofs.Common.{arith}
use Rattle.ompt_events.specs.Causes.{HasMisplacedDeps}
use Rattle.ompt_events.proofs.ShownLemmas.{noted}
use Rattle.depend_edges.proofs.PlacementLemmas.{all_misplaced}
use Rattle.depend_edges.proofs.placement.Marks.misplaced.Goals as goal

pub loop-at-preserved : goal.loop-at-preserved
loop-at-preserved c =
    noted (HasMisplacedDeps c.args.self.now.records) c.loop-at.at c.is_misplaced.result c.loop-at.shown
    c.note.new.self c.is_misplaced.ensures c.in_ok-note.ensures c.loop-at.invariant

pub returns : goal.returns
returns c =
    all_misplaced c.args.self.now.records c.loop-at.at c.loop-at.shown
    (rw (← c.self.view_is)
    (omega (arith, c.loop-at.auto.at-end, c.len-at-end.ensures.value, c.loop-at-test.false)))
    c.loop-at.invariant
