use Rattle.std.proofs.Common.{arith}
use Rattle.checker.proofs.SuspensionLemmas.{laid_room}
use Rattle.checker.proofs.suspensions.rows_of.Goals as goal

pub returns-clause-room : goal.returns-clause-room
returns-clause-room c =
    let end = c.loop-index-test.false in
    let all = c.in_ok-lengths.ensures.all in
    let count = c.len-index-end.ensures in
    let ok = c.in_ok-lengths.lengths.ok.0 in
    laid_room c.args.run.now.records c.args.run.now.family.tasks c.in_ok-lengths.lengths.items
    c.loop-index.rows.items c.loop-index.index (omega (arith, end, all, count, ok))
    c.loop-index.invariant.laid c.in_ok-lengths.ensures.lengths
