use Rattle.std.proofs.Common.{arith}
use Rattle.ompt_events.specs.Causes.{HasNoRoot}
use Rattle.ompt_events.proofs.ShownLemmas.{noted}
use Rattle.task_tree.proofs.RootlessLemmas.{all_rootless, known_free, none_rootless}
use Rattle.task_tree.proofs.rootless.find_rootless.Goals as goal

pub returns-then-are_known : goal.returns-then-are_known
returns-then-are_known c =
    let rs = c.args.trace.now.records in
    let tables = c.args.tables.now in
    rw c.none-shown.ensures
    (none_rootless rs
    (known_free rs tables.tasks tables.regions tables.roots.items c.requires.noted
    c.requires.regions c.requires.roots (c.requires.known c.if-tables.true)
    (rw c.as_slice.ensures.value at (c.are_known.ensures c.if-are_known.true))))

pub loop-at-preserved : goal.loop-at-preserved
loop-at-preserved c =
    noted (HasNoRoot c.args.trace.now.records) c.loop-at.at c.is_rootless.result c.loop-at.shown
    c.note.new.self
    c.is_rootless.ensures c.in_ok-note.ensures c.loop-at.invariant

pub returns : goal.returns
returns c =
    all_rootless c.args.trace.now.records c.loop-at.at c.loop-at.shown
    (omega (arith, c.loop-at.auto.at-end, c.loop-at-test.false, c.len-at-end.ensures.value))
    c.loop-at.invariant
