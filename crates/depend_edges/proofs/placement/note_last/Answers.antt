use Rattle.std.proofs.Common.{◌<◌, rules}
use Rattle.depend_edges.proofs.PlacementLemmas.{last_more}
use Rattle.depend_edges.proofs.placement.note_last.Goals as goal

pub returns : goal.returns
returns c =
    let low : c.thread-thread.result < 256 = search rules in
    rw c.some.ensures
    (last_more c.args.run.now.records c.args.at c.thread-thread.result c.args.last.now.items
    c.thread-thread.ensures low c.requires.last)
